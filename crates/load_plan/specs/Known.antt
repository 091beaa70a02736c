-- Plans and refusals where the answers about a kernel are known beforehand, that is, each answer
-- about a feature depends on the feature alone.
use Rattle.std.specs.Prelude.{◌≡◌, ◌⊎◌, Bool}
use Rattle.btf_records.specs.declared.feature.BtfFeature.{BtfFeature}
use Rattle.object_contents.specs.Faults.{HasFault}
use Rattle.plan_text.specs.Content.{PlanContent}
pub use Rattle.load_plan.specs.Inputs.{GoByFeature}
use Rattle.load_plan.specs.Inputs.{Inputs, IsSaid, State, Under}
use Rattle.load_plan.specs.Passes.{OfParse, Refused, passes}
use Rattle.load_plan.specs.Planned.{IsPlanOf, IsWholeObject}
use Rattle.plan_errors.specs.declared.error.PrepareError.{PrepareError}

-- The answers about a kernel that grants these features, and that has the newer helpers or lacks
-- them.
pub record AreKnown (grants : BtfFeature → Bool) (has_helpers : Bool) (u : Under) : Type 0 where
  pub features : GoByFeature grants u.answers
  pub helpers : IsSaid (λ answer. answer ≡ has_helpers) u.has_helpers

-- The plan of a file's object for such a kernel.
pub record IsPlanFor (grants : BtfFeature → Bool) (has_helpers : Bool) (i : Inputs)
    (plan : PlanContent) : Type 0 where
  pub object : State
  pub whole : IsWholeObject i.file object
  pub under : Under
  pub known : AreKnown grants has_helpers under
  pub planned : IsPlanOf i under object plan

-- A pass refuses the object under the answers that were given so far.
pub record IsPassRefusalFor (grants : BtfFeature → Bool) (i : Inputs) (e : PrepareError)
    : Type 0 where
  pub object : State
  pub whole : IsWholeObject i.file object
  pub under : Under
  pub known : GoByFeature grants under.answers
  pub refused : Refused (passes i.order) i under object e

-- A refusal, apart from out of memory: a fault of the file, or a refusal by a pass.
abbrev pub IsRefusalFor : (BtfFeature → Bool) → Inputs → PrepareError → Type 0
IsRefusalFor grants i e = OfParse (HasFault i.file) e ⊎ IsPassRefusalFor grants i e

-- The results of the passes over an object, with the answers that were given meanwhile.
use Rattle.std.specs.Prelude.{◌≡◌, ◌⊎◌, Bool, List}
use Rattle.btf_sanitize.specs.Answers.{Answers}
use Rattle.ebpf_object.specs.Rewriting.{AreAnswered, CannotRewrite}
use Rattle.load_plan.specs.Inputs.{AreSaid, Inputs, Predicate, State, Table, Under}
use Rattle.load_plan.specs.Passes.{CannotRelocateTypes, Made, OfTypeRelocation, OfTypes, RelocatesTypes, RewritesTypes, linking, patching}
use Rattle.plan_errors.specs.declared.error.PrepareError.{PrepareError}
use Rattle.load_plan.specs.declared.order.Order.{Order}
use Rattle.load_plan.specs.declared.order.Order.TheVariants.{RelocateFirst, RewriteFirst}

-- The two passes over types, in either order.
abbrev pub MakesTypes : Order → List Table → Answers → State → State → Type 0
MakesTypes RelocateFirst kernel answers s t =
    (m : State) × RelocatesTypes kernel s m × RewritesTypes answers m t
MakesTypes RewriteFirst kernel answers s t =
    (m : State) × RewritesTypes answers s m × RelocatesTypes kernel m t

-- One of the two passes over types refuses.
abbrev pub RefusesTypes : Order → List Table → Answers → State → PrepareError → Type 0
RefusesTypes RelocateFirst kernel answers s e =
    OfTypeRelocation (CannotRelocateTypes kernel s) e
    ⊎ ((m : State)
    × RelocatesTypes kernel s m
    × OfTypes (CannotRewrite answers m.file m.externs.ksyms m.types) e)
RefusesTypes RewriteFirst kernel answers s e =
    OfTypes (CannotRewrite answers s.file s.externs.ksyms s.types) e
    ⊎ ((m : State) × RewritesTypes answers s m × OfTypeRelocation (CannotRelocateTypes kernel m) e)

-- All passes are made, under these answers about features and an answer of the probe.
pub record IsMade {F : Type 0} (predicate : Predicate F) (before : F) (Says : Bool → Type 0)
    (i : Inputs) (answers : Answers) (object final : State) : Type 0 where
  pub under : Under
  pub features : under.answers ≡ answers
  pub said : AreSaid predicate before Says under
  pub patched : State
  pub patching : Made (patching i.order) i under object patched
  pub linking : Made linking i under patched final

-- The two passes over types are made, in an order, under answers that the predicate gave.
pub record AreTypesMade {F : Type 0} (predicate : Predicate F) (before : F) (kernel : List Table)
    (order : Order) (answers : Answers) (s t : State) : Type 0 where
  pub answered : AreAnswered predicate before answers
  pub made : MakesTypes order kernel answers s t

-- The types of an object can't be rewritten under answers that the predicate gave.
pub record IsRefusedTypes {F : Type 0} (predicate : Predicate F) (before : F) (s : State)
    (e : PrepareError) : Type 0 where
  pub answers : Answers
  pub answered : AreAnswered predicate before answers
  pub fault : OfTypes (CannotRewrite answers s.file s.externs.ksyms s.types) e

-- The first of the two passes over types refuses, or the second one after it, under the answers
-- that the predicate gave so far.
pub record AreTypesRefused {F : Type 0} (predicate : Predicate F) (before : F) (kernel : List Table)
    (order : Order) (s : State) (e : PrepareError) : Type 0 where
  pub answers : Answers
  pub answered : AreAnswered predicate before answers
  pub refused : RefusesTypes order kernel answers s e

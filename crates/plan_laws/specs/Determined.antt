-- A plan is determined by its inputs and by the answers about the kernel.
use Rattle.std.specs.Prelude.{◌≡◌, ◌⊎◌, ℕ, Bool, false, List, map}
use Rattle.btf_records.specs.declared.feature.BtfFeature.{BtfFeature}
use Rattle.ebpf_items.specs.declared.instruction.bpf_insn.{bpf_insn}
use Rattle.object_contents.specs.Faults.{HasFault}
use Rattle.extern_resolution.specs.Outcomes.{is_any_sought}
use Rattle.load_plan.specs.Inputs.{Inputs, State, Under, symbols_given}
use Rattle.load_plan.specs.Known.{IsPlanFor, IsRefusalFor}
use Rattle.load_plan.specs.Orders.{IsMadePlan}
use Rattle.load_plan.specs.Passes.{OfParse, Refused, passes}
use Rattle.load_plan.specs.Planned.{IsPlanOf, IsWholeObject}
use Rattle.plan_errors.specs.declared.error.PrepareError.{PrepareError}
use Rattle.load_plan.specs.declared.order.Order.TheVariants.{RelocateFirst}
use Rattle.plan_text.specs.Content.{PlanContent}
use Rattle.plan_text.specs.PlanGrammar.{text_of}

-- The plan of a file's object under answers.
pub record IsPlanUnder (i : Inputs) (u : Under) (plan : PlanContent) : Type 0 where
  pub object : State
  pub whole : IsWholeObject i.file object
  pub planned : IsPlanOf i u object plan

-- A pass refuses a file's object under answers.
pub record IsPassRefusalUnder (i : Inputs) (u : Under) (e : PrepareError) : Type 0 where
  pub object : State
  pub whole : IsWholeObject i.file object
  pub refused : Refused (passes i.order) i u object e

-- A refusal under answers, apart from out of memory.
abbrev pub IsRefusalUnder : Inputs → Under → PrepareError → Type 0
IsRefusalUnder i u e = OfParse (HasFault i.file) e ⊎ IsPassRefusalUnder i u e

-- Equal inputs and equal answers give equal plans. Equal inputs for a kernel with known features,
-- and with the newer helpers or without them, give equal plans and equal texts.
pub record PlansAreDetermined : Type 0 where
  pub under : (i : Inputs) (u : Under) (a b : PlanContent)
      → IsPlanUnder i u a → IsPlanUnder i u b → a ≡ b
  pub kernel : (i : Inputs) (grants : BtfFeature → Bool) (has_helpers : Bool)
      (a b : PlanContent)
      → IsPlanFor grants has_helpers i a → IsPlanFor grants has_helpers i b → a ≡ b
  pub texts : (i : Inputs) (grants : BtfFeature → Bool) (has_helpers : Bool)
      (a b : PlanContent)
      → IsPlanFor grants has_helpers i a → IsPlanFor grants has_helpers i b → text_of a ≡ text_of b

-- The same inputs and answers don't give both a plan and a refusal.
pub record PlansExcludeRefusals : Type 0 where
  pub under : (i : Inputs) (u : Under) (plan : PlanContent) (e : PrepareError)
      → IsPlanUnder i u plan → IsRefusalUnder i u e → ⊥
  pub kernel : (i : Inputs) (grants : BtfFeature → Bool) (has_helpers : Bool)
      (plan : PlanContent)
      → (e : PrepareError) → IsPlanFor grants has_helpers i plan → IsRefusalFor grants i e → ⊥

-- The slots of a plan's programs.
abbrev pub slots_of : PlanContent → List (List bpf_insn)
slots_of plan = map (λ p. p.slots) plan.programs

-- Two plans have the same maps and, program by program, the same slots.
pub record SameSlotsAndMaps (a b : PlanContent) : Type 0 where
  pub maps : a.maps ≡ b.maps
  pub slots : slots_of a ≡ slots_of b

-- If type relocations are resolved before types are rewritten, the answers about features of types
-- change neither slots nor maps.
pub record FeaturesLeaveSlotsAndMaps : Type 0 where
  pub under : (i : Inputs) → i.order ≡ RelocateFirst → (u v : Under)
      → u.has_helpers ≡ v.has_helpers
      → (a b : PlanContent) → IsPlanUnder i u a → IsPlanUnder i v b → SameSlotsAndMaps a b
  pub kernel : (i : Inputs) → i.order ≡ RelocateFirst
      → (grants others : BtfFeature → Bool)
      → (has_helpers : Bool) (a b : PlanContent)
      → IsPlanFor grants has_helpers i a → IsPlanFor others has_helpers i b → SameSlotsAndMaps a b

-- The same inputs with another text of symbols.
abbrev pub with_text : List ℕ → Inputs → Inputs
with_text text i = record i { symbols = symbols_given text i.symbols.failed }

-- If no extern of an object is searched in the text of symbols, each text gives the same plans and
-- refusals.
pub record TextsAreUnread : Type 0 where
  pub plans : (i : Inputs) (text : List ℕ) (u : Under) (object : State)
      → is_any_sought object.externs.by_name ≡ false
      → (plan : PlanContent) → IsMadePlan i u object plan → IsMadePlan (with_text text i) u object plan
  pub refusals : (i : Inputs) (text : List ℕ) (u : Under) (object : State)
      → is_any_sought object.externs.by_name ≡ false
      → (e : PrepareError)
      → Refused (passes i.order) i u object e
      → Refused (passes i.order) (with_text text i) u object e

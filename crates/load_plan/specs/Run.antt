-- The results of a run, by the object's bytes, the kernel's types and symbols, and the settings of
-- a user.
use Rattle.std.specs.Prelude.{◌≢◌, ℕ, List, Bool, Option}
use Rattle.load_plan.specs.Content.{PlanContent}
use Rattle.load_plan.specs.Inputs.{ForText, Inputs, Table, inputs, symbols_given}
use Rattle.load_plan.specs.Known.{IsPlanFor, IsRefusalFor}
use Rattle.load_plan.specs.PlanGrammar as grammar
use Rattle.plan_errors.specs.declared.error.PrepareError.TheVariants as prepare
use Rattle.load_plan.specs.declared.order.Order.{Order}
use Rattle.run_settings.specs.Documents.{RunContent}
use Rattle.run_settings.specs.Features.{grants}
use Rattle.load_plan.specs.declared.run_error.RunError.{RunError}
use Rattle.load_plan.specs.declared.run_error.RunError.TheVariants.{Output, Refused}

-- The inputs of a run: the text of the symbols' reader, and whether reading it failed.
abbrev pub inputs_of : List ℕ → List Table → List ℕ → Bool → RunContent → Order → Inputs
inputs_of file kernel_types symbols failed s order =
    inputs file kernel_types (symbols_given symbols failed) s.settings order

-- The text of the plan of these inputs satisfies `Holds`, for the kernel of the settings.
pub record HoldsOfText (s : RunContent) (i : Inputs) (Holds : List ℕ → Type 0) : Type 0 where
  pub plan : PlanContent
  pub planned : IsPlanFor (grants s.features) s.probe i plan
  pub holds : Holds (grammar.text_of plan)

-- The meaning of an error for the inputs with the text of symbols that a reader gives.
abbrev pub IsRunRefusal : RunContent → Option (List ℕ) → (List ℕ → Inputs) → RunError → Type 0
IsRunRefusal s known inputs_with (Refused e) =
    e ≢ prepare.OutOfMemory
    → ForText known (λ text. IsRefusalFor (grants s.features) (inputs_with text) e)
IsRunRefusal s known inputs_with Output = Unit {0}

-- What failures say, and what a refusal by a run says.
use Rattle.std.proofs.Common.{◌≡◌, ◌≢◌, ℕ, ℤ, pos, Bool, false, List, Some, subst, sym, ◌∙◌}
use Rattle.btf_tables.specs.Tables.{Table}
use Rattle.load_plan.specs.Known.{IsRefusalFor}
use Rattle.load_plan.specs.Run.{IsRunRefusal, inputs_of}
use Rattle.load_plan.specs.declared.order.Order.{Order}
use Rattle.load_plan.specs.declared.run_error.RunError.{RunError}
use Rattle.load_plan.specs.declared.run_error.RunError.TheVariants as run
use Rattle.plan_errors.specs.declared.error.PrepareError.{PrepareError}
use Rattle.plan_errors.specs.declared.error.PrepareError.TheVariants as prepare
use Rattle.run_settings.specs.Documents.{RunContent}
use Rattle.run_settings.specs.Features.{grants}
use Rattle.morvezin.specs.Calls.{IsRefusedFor, Says}
use Rattle.morvezin.specs.Kinds.{kind_of}
use Rattle.morvezin.specs.declared.failure.Failure.{Failure}
use Rattle.morvezin.specs.declared.failure.Failure.TheVariants as failure

-- A failure that says one thing also says what follows from it.
pub says_more : {P Q : ℤ → Type 0} {A B C D : Type 0}
    → ((kind : ℤ) → P kind → Q kind)
    → (A → B)
    → (C → D)
    → (e : Failure)
    → Says P A C e
    → Says Q B D e
says_more f g h (failure.Refused kind text) said = f kind said
says_more f g h (failure.Settings text) said = g said
says_more f g h (failure.Types text) said = h said
says_more f g h failure.OutOfMemory said = said

-- A refusal by a run over a text in memory, all of which was read, is one for these inputs.
pub refused_for : (object : List ℕ) (tables : List Table) (text symbols : List ℕ) (failed : Bool)
    (set : RunContent) (order : Order) (r : RunError) (e : PrepareError)
    → text ≡ symbols
    → failed ≡ false
    → r ≡ run.Refused e
    → IsRunRefusal set (Some text) (λ text. inputs_of object tables text failed set order) r
    → (kind : ℤ)
    → (e ≢ prepare.OutOfMemory) × (kind ≡ pos (kind_of e))
    → IsRefusedFor kind set (inputs_of object tables symbols false set order)
refused_for object tables text symbols failed set order r e is_text well is_e refused kind said =
    let R : RunError → Type 0 =
    IsRunRefusal set (Some text)
    (λ text. inputs_of object tables text failed set order)
    in
    let found = subst R is_e refused said.0 in
    let P : List ℕ → Type 0 =
    λ text.
    IsRefusalFor (grants set.features) (inputs_of object tables text failed set order) e
    in
    let Q : Bool → Type 0 =
    λ failed.
    IsRefusalFor (grants set.features) (inputs_of object tables symbols failed set order) e
    in
    record
    { error = e; kept = said.0; is_kind = said.1; refused = subst Q well (subst P (sym found.1 ∙ is_text) found.2) }

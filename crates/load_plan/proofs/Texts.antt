-- What holds for the text that a reader gives.
use Rattle.std.proofs.Common.{◌≡◌, ℕ, Bool, List, [], Option, None, Some, refl, ap}
use Rattle.std.specs.Option.{IsSomeAnd, MatchOption}
use Rattle.std.specs.Prelude.{◌≢◌, IfSome}
use Rattle.btf_tables.specs.Tables.{Table}
use Rattle.extern_resolution.specs.Resolution as resolution
use Rattle.extern_resolution.specs.Resolution.{AreResolved}
use Rattle.extern_resolution.specs.declared.error.KsymsError.{KsymsError}
use Rattle.extern_resolution.specs.declared.error.KsymsError.TheVariants as ksyms
use Rattle.kernel_symbols.specs.Texts.{IsGiven}
use Rattle.load_plan.specs.Inputs.{ForText, State, symbols_given}
use Rattle.load_plan.specs.Passes.{CannotResolve, OfKsyms, ResolvesExterns}
use Rattle.object_externs.specs.Externs.{ExternsContent}
use Rattle.plan_errors.specs.Errors.{of_ksyms}
use Rattle.plan_errors.specs.declared.error.PrepareError.TheVariants.{OutOfMemory}
use Rattle.load_plan.proofs.Refused.{ksyms_refused}

-- Some text that a reader may give.
abbrev pub some_text : Option (List ℕ) → List ℕ
some_text None = []
some_text (Some bytes) = bytes

pub some_given : (known : Option (List ℕ)) → IsGiven known (some_text known)
some_given None = tt
some_given (Some bytes) = refl

-- A property that implies another one for each text.
pub through_text : {P Q : List ℕ → Type 0} (known : Option (List ℕ)) → ((text : List ℕ) → P text → Q text) → ForText known P → ForText known Q
through_text known more holds = (holds.0, holds.1, more holds.0 holds.2)

resolved_by : (known : Option (List ℕ)) (kernel : Option Table) (failed : Bool) (types : Option Table) (old new : ExternsContent)
    → IfSome types (λ table. ForText known (λ text. AreResolved table kernel text failed old new))
    → (types ≡ None → new ≡ old)
    → ForText known (λ text. MatchOption types (new ≡ old) (λ table. AreResolved table kernel text failed old new))
resolved_by known kernel failed None old new are left = (some_text known, some_given known, left refl)
resolved_by known kernel failed (Some table) old new are left = are

-- The externs of an object are resolved if there are types, and unchanged otherwise.
pub resolved_if : (known : Option (List ℕ)) (kernel : Option Table) (failed : Bool) (s t : State)
    → IfSome s.types (λ table. ForText known (λ text. AreResolved table kernel text failed s.externs t.externs))
    → (s.types ≡ None → t.externs ≡ s.externs)
    → t ≡ record s { externs = t.externs }
    → ForText known (λ text. ResolvesExterns kernel (symbols_given text failed) s t)
resolved_if known kernel failed s t are left others =
    through_text known (λ text externs. record { externs = externs; others = others })
    (resolved_by known kernel failed s.types s.externs t.externs are left)

unresolved_by : (known : Option (List ℕ)) (types : Option Table) (P : List ℕ → Table → Type 0)
    → IsSomeAnd types (λ table. ForText known (λ text. P text table))
    → ForText known (λ text. IsSomeAnd types (P text))
unresolved_by known None P fault = absurd fault
unresolved_by known (Some table) P fault = fault

-- A fault of the resolution of an object's externs.
pub externs_refused : (known : Option (List ℕ)) (kernel : Option Table) (failed : Bool) (s : State) (e : KsymsError)
    → (e ≢ ksyms.OutOfMemory → IsSomeAnd s.types (λ table. ForText known (λ text. resolution.CannotResolve table kernel text failed s.externs e)))
    → of_ksyms e ≢ OutOfMemory
    → ForText known (λ text. OfKsyms (CannotResolve kernel (symbols_given text failed) s) (of_ksyms e))
externs_refused known kernel failed s e refused other =
    through_text known (λ text stands. ksyms_refused (CannotResolve kernel (symbols_given text failed) s) e (λ _. stands) other)
    (unresolved_by known s.types (λ text table. resolution.CannotResolve table kernel text failed s.externs e)
    (refused (λ same. other (ap of_ksyms same))))

-- The externs of an object, resolved.
use Rattle.std.specs.Prelude.{◌≡◌, ℕ, Bool, List, Option}
use Rattle.std.specs.List.{AllZip}
use Rattle.btf_tables.specs.Tables.{Table}
use Rattle.extern_resolution.specs.Faults.{ResolutionFault}
use Rattle.extern_resolution.specs.Outcomes.{EntryBecomes}
use Rattle.extern_resolution.specs.declared.error.KsymsError.{KsymsError}
use Rattle.kernel_symbols.specs.Texts.{IsGiven}
use Rattle.object_externs.specs.Externs.{ExternsContent}

-- Something holds for the text that a reader gives. If the reader's bytes aren't known, it holds
-- for some text.
abbrev pub ForText : Option (List ℕ) → (List ℕ → Type 0) → Type 0
ForText known Holds = (text : List ℕ) × IsGiven known text × Holds text

-- The externs are resolved: no fault occurs, and each extern has the outcome that the tables and
-- the text of symbols determine.
pub record AreResolved (table : Table) (kernel : Option Table) (text : List ℕ) (failed : Bool)
    (old new : ExternsContent) : Type 0 where
  pub faultless : (f : KsymsError) → ResolutionFault table kernel failed text old.by_name f → ⊥
  pub each : AllZip (EntryBecomes table kernel text) old.by_name new.by_name
  pub section : new.ksyms ≡ old.ksyms

-- A fault occurs.
abbrev pub CannotResolve : Table
    → Option Table
    → List ℕ
    → Bool
    → ExternsContent
    → KsymsError
    → Type 0
CannotResolve table kernel text failed old f =
    ResolutionFault table kernel failed text old.by_name f

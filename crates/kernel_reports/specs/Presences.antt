-- Whether a kernel has the externs of an object.
use Rattle.std.specs.Prelude.{◌≡◌, ◌⊎◌, ◌&&◌, not, ℕ, List, map, Bool, true, false, if◌then◌else◌, Option, None, Some, is_none}
use Rattle.std.specs.List.{AllZip}
use Rattle.std.specs.Option.{MatchOption}
use Rattle.btf_tables.specs.Tables.{Table}
use Rattle.extern_resolution.specs.Faults.{ResolutionFault}
use Rattle.extern_resolution.specs.Outcomes.{IsFoundIn}
use Rattle.extern_resolution.specs.declared.error.KsymsError.{KsymsError}
use Rattle.kernel_symbols.specs.Texts.{address_of}
use Rattle.object_externs.specs.Externs.{ExternContent, ExternsContent}
use Rattle.report_needs.specs.declared.enums.Presence.{Presence}
use Rattle.report_needs.specs.declared.enums.Presence.TheVariants.{Found, Missing, Unknown}

-- An extern as it was declared, but weak.
abbrev pub as_weak : ExternContent → ExternContent
as_weak e = record e { is_weak = true; is_resolved = false; kernel_btf_id = None; ksym_addr = None }

abbrev pub all_weak : ExternsContent → ExternsContent
all_weak externs = record externs { by_name = map (λ e. (e.0, as_weak e.1)) externs.by_name }

-- The kernel has an extern: one with a type in the kernel's first table, and one without a type in
-- the text of symbols.
abbrev pub IsThere : Table → Option Table → List ℕ → List ℕ → ExternContent → Type 0
IsThere table kernel text name e =
    MatchOption e.type_id ((address : ℕ) × (address_of name text ≡ Some address)) (λ type_id.
    (id : ℕ) × IsFoundIn table kernel name e type_id (Some id))

abbrev pub IsNotThere : Table → Option Table → List ℕ → List ℕ → ExternContent → Type 0
IsNotThere table kernel text name e =
    MatchOption e.type_id (address_of name text ≡ None) (λ type_id.
    IsFoundIn table kernel name e type_id None)

-- Whether an extern has no type and no symbols are given.
abbrev pub is_unknown : Bool → ExternContent → Bool
is_unknown has_symbols e = is_none e.type_id && not has_symbols

abbrev pub SaysOfExtern : Table
    → Option Table
    → List ℕ
    → Bool
    → (List ℕ × ExternContent)
    → Presence
    → Type 0
SaysOfExtern table kernel text has_symbols e Found =
    (is_unknown has_symbols e.1 ≡ false) × IsThere table kernel text e.0 e.1
SaysOfExtern table kernel text has_symbols e Missing =
    (is_unknown has_symbols e.1 ≡ false) × IsNotThere table kernel text e.0 e.1
SaysOfExtern table kernel text has_symbols e Unknown = is_unknown has_symbols e.1 ≡ true

-- A fault of the resolution of externs, where all of them may be missing and the text of symbols is
-- read completely.
abbrev pub WeakFault : Table → Option Table → List ℕ → ExternsContent → KsymsError → Type 0
WeakFault table kernel text externs f =
    ResolutionFault table kernel false text (all_weak externs).by_name f

-- No fault occurs, and the presence of each extern is given.
pub record SaysEach (table : Table) (kernel : Option Table) (text : List ℕ) (has_symbols : Bool)
    (externs : ExternsContent) (said : List Presence) : Type 0 where
  pub faultless : (f : KsymsError) → WeakFault table kernel text externs f → ⊥
  pub each : AllZip (SaysOfExtern table kernel text has_symbols) externs.by_name said

-- The presence of each extern is unknown.
abbrev pub all_unknown : ExternsContent → List Presence
all_unknown externs = map (λ e. Unknown) externs.by_name

-- A fault occurs, and the presence of each extern is unknown.
pub record SaysNothing (table : Table) (kernel : Option Table) (text : List ℕ)
    (externs : ExternsContent) (said : List Presence) : Type 0 where
  pub fault : KsymsError
  pub stands : WeakFault table kernel text externs fault
  pub nothing : said ≡ all_unknown externs

-- The presence of an object's externs, by name. It is unknown if the object has no types.
abbrev pub SaysOfExterns : Option Table
    → Option Table
    → List ℕ
    → Bool
    → ExternsContent
    → List Presence
    → Type 0
SaysOfExterns None kernel text has_symbols externs said = said ≡ all_unknown externs
SaysOfExterns (Some table) kernel text has_symbols externs said =
    SaysEach table kernel text has_symbols externs said
    ⊎ SaysNothing table kernel text externs said

-- The presence of a resolved extern.
abbrev pub presence_of : Bool → ExternContent → Presence
presence_of has_symbols e =
    if is_unknown has_symbols e then Unknown else if e.is_resolved then Found else Missing

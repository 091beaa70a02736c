-- The table of an object, rewritten to the features that a kernel grants.
use Rattle.std.specs.Prelude.{◌≡◌, ◌⊎◌, ℕ, length, ◌==◌, Bool, true, false, List, [], Option, Some, None}
use Rattle.std.specs.Fn.{Mut}
use Rattle.std.specs.Option.{IsSomeAnd, option_map}
use Rattle.btf_storage.specs.Faultless.{IsFaultless}
use Rattle.btf_records.specs.declared.error.BtfError.{BtfError}
use Rattle.btf_records.specs.declared.feature.BtfFeature.{BtfFeature}
use Rattle.btf_sanitize.specs.Answers.{Answers, AreDistinct, AreGiven, features}
use Rattle.btf_sanitize.specs.Kept.{Keeps}
use Rattle.btf_sanitize.specs.Needs.{AreQuestions}
use Rattle.btf_sanitize.specs.Sanitized.{SanitizingFault}
use Rattle.btf_rewrite.specs.Carrying.{Carries, stays_in}
use Rattle.btf_tables.specs.GrownTables.{TextsStay}
use Rattle.btf_rewrite.specs.Sanitizing.{IsAccepted, StepFault, StepStays, facts_in, sanitized, stepped}
use Rattle.btf_tables.specs.Tables.{Table}
use Rattle.elf64.specs.Symbols.{symbols_of}
use Rattle.object_file.specs.Reading.{read_sections}
use Rattle.object_file.specs.Named.{last_section, last_symbol}

-- The sizes of sections and the offsets of symbols by name in a file.
pub record AreNumbersOf (file : List ℕ) (sizes offsets : List ℕ → Option ℕ) : Type 0 where
  pub size_at : (name : List ℕ)
      → sizes name ≡ option_map (λ s. s.size) (last_section (read_sections file) name)
  pub offset_at : (name : List ℕ)
      → offsets name ≡ option_map (λ s. s.address) (last_symbol (symbols_of file) name)

-- Calls of the predicate gave these answers, in this order.
pub record AreAnswered {F : Type 0} (predicate : Mut F (BtfFeature × Unit {0}) Bool) (before : F)
    (answers : Answers) : Type 0 where
  pub after : F
  pub given : AreGiven predicate before [] answers after

-- The questions are the features that the records of a table need, in the order of need, each once.
pub record AreAsked (table : Table) (answers : Answers) : Type 0 where
  pub questions : AreQuestions table.strings table.types answers
  pub once : AreDistinct (features answers)

-- A record of a table can't be rewritten under the answers.
abbrev pub IsRefusedUnder : Answers
    → (List ℕ → Option ℕ)
    → (List ℕ → Option ℕ)
    → Table
    → BtfError
    → Type 0
IsRefusedUnder answers sizes offsets table e =
    AreAsked table answers × SanitizingFault table.order (facts_in answers sizes offsets table) e

-- A fault of rewriting a table under answers: a fault of the step on `.ksyms`, or of a record after
-- the step.
pub record TableFault (answers : Answers) (file : List ℕ) (ksyms : Option (ℕ × Option ℕ))
    (table : Table) (e : BtfError) : Type 0 where
  pub sizes : List ℕ → Option ℕ
  pub offsets : List ℕ → Option ℕ
  pub numbers : AreNumbersOf file sizes offsets
  pub fault : StepFault ksyms table e
      ⊎ (IsFaultless (StepFault ksyms table)
      × IsRefusedUnder answers sizes offsets (stepped ksyms table) e)

-- A table can't be rewritten under answers that a predicate gave.
pub record IsRefusedTable {F : Type 0} (predicate : Mut F (BtfFeature × Unit {0}) Bool) (before : F)
    (file : List ℕ) (ksyms : Option (ℕ × Option ℕ)) (table : Table) (e : BtfError) : Type 0 where
  pub answers : Answers
  pub answered : AreAnswered predicate before answers
  pub fault : TableFault answers file ksyms table e

-- A fault of rewriting the types of an object. A table without types is not rewritten.
abbrev pub CannotRewrite : Answers
    → List ℕ
    → Option (ℕ × Option ℕ)
    → Option Table
    → BtfError
    → Type 0
CannotRewrite answers file ksyms types e =
    IsSomeAnd types (λ table.
    ((length table.types == 0) ≡ false) × TableFault answers file ksyms table e)

-- The types of an object can't be rewritten under answers that a predicate gave.
pub record IsRefused {F : Type 0} (predicate : Mut F (BtfFeature × Unit {0}) Bool) (before : F)
    (file : List ℕ) (ksyms : Option (ℕ × Option ℕ)) (types : Option Table) (e : BtfError)
    : Type 0 where
  pub answers : Answers
  pub answered : AreAnswered predicate before answers
  pub fault : CannotRewrite answers file ksyms types e

-- A table is rewritten: first by the step on `.ksyms`, and then record by record under the answers,
-- without a fault. Its texts are kept, and also the results that depend on unchanged records.
pub record IsRewrittenTable (answers : Answers) (file : List ℕ) (ksyms : Option (ℕ × Option ℕ))
    (table : Table) (new : Table) : Type 0 where
  pub sizes : List ℕ → Option ℕ
  pub offsets : List ℕ → Option ℕ
  pub numbers : AreNumbersOf file sizes offsets
  pub asked : AreAsked (stepped ksyms table) answers
  pub table_is : new ≡ sanitized answers sizes offsets (stepped ksyms table)
  pub stepped_whole : IsFaultless (StepFault ksyms table)
  pub accepted : IsAccepted answers sizes offsets (stepped ksyms table)
  pub step : StepStays ksyms table
  pub keeps : Keeps (facts_in answers sizes offsets (stepped ksyms table)) new.types
  pub texts : TextsStay table new
  pub carries : Carries
      (stays_in ksyms table (facts_in answers sizes offsets (stepped ksyms table))) table new

-- The types are unchanged, and no question was asked.
pub record IsLeft (types : Option Table) (answers : Answers) (new : Option Table) : Type 0 where
  pub same : new ≡ types
  pub unasked : answers ≡ []

-- A table without types is unchanged. Another table is rewritten.
abbrev pub IsRewrittenIf : Bool → Answers → List ℕ → Option (ℕ × Option ℕ) → Table → Table → Type 0
IsRewrittenIf true answers file ksyms table new = IsLeft (Some table) answers (Some new)
IsRewrittenIf false answers file ksyms table new = IsRewrittenTable answers file ksyms table new

-- The types of an object are rewritten under the answers.
abbrev pub IsRewritten : Answers
    → List ℕ
    → Option (ℕ × Option ℕ)
    → Option Table
    → Option Table
    → Type 0
IsRewritten answers file ksyms (Some table) (Some new) =
    IsRewrittenIf (length table.types == 0) answers file ksyms table new
IsRewritten answers file ksyms None None = IsLeft None answers None
IsRewritten answers file ksyms _ _ = ⊥

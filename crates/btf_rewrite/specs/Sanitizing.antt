-- A table rewritten for the features that a kernel grants: first its section `.ksyms`, then each
-- record.
use Rattle.std.specs.Prelude.{ℕ, Bool, List, [], ◌++◌, Option, None, Some}
use Rattle.std.specs.Fn.{Mut}
use Rattle.btf_records.specs.declared.error.BtfError.{BtfError}
use Rattle.btf_records.specs.declared.feature.BtfFeature.{BtfFeature}
use Rattle.btf_sanitize.specs.Answers.{Answers, AreDistinct, AreGiven, features, granted}
use Rattle.btf_sanitize.specs.Facts.{Facts}
use Rattle.btf_rewrite.specs.Ksyms.{Ksyms, KsymsFault, StepKeeps, stepped_texts, stepped_types}
use Rattle.btf_sanitize.specs.Needs.{AreQuestions}
use Rattle.btf_sanitize.specs.Sanitized.{SanitizingFault, sanitized_strings, sanitized_types}
use Rattle.btf_tables.specs.Tables.{Table}
use Rattle.btf_storage.specs.Faultless.{IsFaultless}

-- The section `.ksyms` of an id, and the placeholder variable that replaces functions in it.
abbrev pub ksyms_in : Table → ℕ → Option ℕ → Ksyms
ksyms_in table section placeholder =
    record
    { types = table.types; strings = table.strings; section = section; placeholder = placeholder }

-- The table after the rewriting of `.ksyms`. Without ids nothing is rewritten.
abbrev pub with_ksyms : ℕ → Option ℕ → Table → Table
with_ksyms section placeholder table =
    record table {
      types = stepped_types (ksyms_in table section placeholder);
      strings = table.strings ++ stepped_texts (ksyms_in table section placeholder);
    }

abbrev pub stepped : Option (ℕ × Option ℕ) → Table → Table
stepped None table = table
stepped (Some ids) table = with_ksyms ids.0 ids.1 table

abbrev pub StepFault : Option (ℕ × Option ℕ) → Table → BtfError → Type 0
StepFault None table e = ⊥
StepFault (Some ids) table e = KsymsFault table.order (ksyms_in table ids.0 ids.1) e

-- The facts of a table, by the answers about features, the sizes of sections and the offsets of
-- symbols.
abbrev pub facts_in : Answers → (List ℕ → Option ℕ) → (List ℕ → Option ℕ) → Table → Facts
facts_in answers sizes offsets table =
    record {
      grants = granted answers;
      strings = table.strings;
      types = table.types;
      sizes = sizes;
      offsets = offsets;
    }

abbrev pub sanitized : Answers → (List ℕ → Option ℕ) → (List ℕ → Option ℕ) → Table → Table
sanitized answers sizes offsets table =
    record table {
      types = sanitized_types (facts_in answers sizes offsets table);
      strings = sanitized_strings (facts_in answers sizes offsets table);
    }

-- The answers are results of the predicate, one for each feature that the records of the table
-- need, in the order of need.
pub record AreAnswersFor {F : Type 0} (predicate : Mut F (BtfFeature × Unit {0}) Bool) (before : F)
    (table : Table) (answers : Answers) : Type 0 where
  pub questions : AreQuestions table.strings table.types answers
  pub once : AreDistinct (features answers)
  pub after : F
  pub given : AreGiven predicate before [] answers after

-- With such answers, the rewriting has a fault.
pub record IsRefused {F : Type 0} (predicate : Mut F (BtfFeature × Unit {0}) Bool) (before : F)
    (sizes offsets : List ℕ → Option ℕ) (table : Table) (e : BtfError) : Type 0 where
  pub answers : Answers
  pub asked : AreAnswersFor predicate before table answers
  pub fault : SanitizingFault table.order (facts_in answers sizes offsets table) e

-- With these answers, the rewriting has no fault.
pub record IsAccepted (answers : Answers) (sizes offsets : List ℕ → Option ℕ) (table : Table)
    : Type 0 where
  pub none : IsFaultless (SanitizingFault table.order (facts_in answers sizes offsets table))

-- Each record after the rewriting of `.ksyms` is the rewritten record of its id.
abbrev pub StepStays : Option (ℕ × Option ℕ) → Table → Type 0
StepStays None table = Unit {0}
StepStays (Some ids) table = StepKeeps (ksyms_in table ids.0 ids.1) (stepped (Some ids) table).types

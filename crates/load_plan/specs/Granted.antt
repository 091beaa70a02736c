-- The features that the types of a plan need.
use Rattle.std.specs.Prelude.{◌≡◌, ℕ, List, Option, None, Some, unwrap_or}
use Rattle.btf_storage.specs.Ids.{record_of_id}
use Rattle.btf_records.specs.declared.types.BtfType.{BtfType}
use Rattle.btf_sanitize.specs.Answers.{Answers, granted}
use Rattle.btf_sanitize.specs.Kept.{AllGranted, needed_after}
use Rattle.btf_rewrite.specs.Sanitizing.{stepped}
use Rattle.btf_tables.specs.Tables.{Table}

-- The record that an id had before, or its record now if it had none.
abbrev pub came_as : List BtfType → ℕ → BtfType → BtfType
came_as before id r = unwrap_or (record_of_id before id) r

-- The record of each id needs only features that are granted. A section without entries that had a
-- size before needs only the features of a section with entries.
pub record NeedGranted (answers : Answers) (before after : List BtfType) : Type 0 where
  pub each : (id : ℕ) (r : BtfType)
      → record_of_id after id ≡ Some r
      → AllGranted (granted answers) (needed_after (came_as before id r) r)

-- The records of an object's rewritten types need only features that are granted.
abbrev pub AreGranted : Answers → Option (ℕ × Option ℕ) → Option Table → Option Table → Type 0
AreGranted answers ksyms (Some old) (Some new) =
    NeedGranted answers (stepped ksyms old).types new.types
AreGranted answers ksyms None None = Unit {0}
AreGranted answers ksyms _ _ = ⊥

-- The input of a rewriting.
use Rattle.std.specs.Prelude.{ℕ, Bool, List, [], Option, unwrap_or}
use Rattle.std.specs.Borrow.{Bor}
use Rattle.std.specs.BTreeMap.{is_at}
use Rattle.std.specs.Cmp.Lexicographic.{slice_cmp}
use Rattle.std.specs.Map.{lookup}
use Rattle.std.specs.Ordering.{nat_cmp}
use Rattle.string_table.specs.Texts.{text_at}
use Rattle.btf_storage.specs.Ids.{record_of_id}
use Rattle.btf_records.specs.declared.feature.BtfFeature.{BtfFeature}
use Rattle.btf_records.specs.declared.types.BtfType.{BtfType}

-- The granted features, the table's strings and types before the rewriting, and by name the sizes
-- of the object's sections and the offsets of its symbols.
pub record Facts : Type 0 where
  pub grants : BtfFeature → Bool
  pub strings : List ℕ
  pub types : List BtfType
  pub sizes : List ℕ → Option ℕ
  pub offsets : List ℕ → Option ℕ

abbrev pub type_at : Facts → ℕ → Option BtfType
type_at known id = record_of_id known.types id

-- The bytes of a name, or no bytes if it can't be read.
abbrev pub name_at : Facts → ℕ → List ℕ
name_at known name_offset = unwrap_or (text_at known.strings name_offset) []

-- The number of a name.
abbrev pub number_named : List (Bor (List ℕ) × ℕ) → List ℕ → Option ℕ
number_named numbers name = lookup (is_at (λ key. slice_cmp nat_cmp name key.now)) numbers

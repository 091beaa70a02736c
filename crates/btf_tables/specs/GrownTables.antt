-- A table to which a string or a type is added, or that gets other records.
use Rattle.std.specs.Prelude.{◌≡◌, ℕ, ◌+◌, List, [], ◌∷◌, ◌++◌, length, ◌⊎◌, Some}
use Rattle.btf_storage.specs.Growth.{TooMany}
use Rattle.btf_storage.specs.Layout.{RecordList}
use Rattle.btf_tables.specs.Tables.{Table, type_by_id, type_bytes}
use Rattle.string_table.specs.Texts.{text_at}
use Rattle.btf_records.specs.declared.types.BtfType.{BtfType}

-- The table with a text and a NUL appended to its strings.
abbrev pub with_string : Table → List ℕ → Table
with_string table text = record table { strings = table.strings ++ text ++ 0 ∷ [] }

-- The table with a record under the next id.
abbrev pub with_type : Table → BtfType → Table
with_type table t = record table { types = table.types ++ t ∷ [] }

-- The table with other records in their byte order, and with some bytes appended to its strings.
abbrev pub with_records : Table → RecordList → List ℕ → Table
with_records table records texts =
    record table {
      order = records.order;
      types = records.types;
      strings = table.strings ++ texts;
    }

-- The fault of adding a type: the number of type bytes or types overflows 32 bits.
abbrev pub IsFull : Table → BtfType → Type 0
IsFull table t =
    TooMany (length (type_bytes (with_type table t))) ⊎ TooMany (length table.types + 1)

-- The texts of one table are the same in another.
pub record TextsStay (old new : Table) : Type 0 where
  pub stay : (offset : ℕ) (text : List ℕ)
      → text_at old.strings offset ≡ Some text
      → text_at new.strings offset ≡ Some text

-- The records of one table are the same in another.
pub record TypesStay (old new : Table) : Type 0 where
  pub stay : (id : ℕ) (t : BtfType) → type_by_id old id ≡ Some t → type_by_id new id ≡ Some t

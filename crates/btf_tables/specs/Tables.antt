-- A table of types and strings, and the section that holds it ("BTF Type and String Encoding").
use Rattle.std.specs.Prelude.{◌≡◌, ℕ, ◌+◌, ◌-◌, ◌<◌, ◌≤◌, ◌⊎◌, List, [], ◌∷◌, ◌++◌, length, take, drop, slice_index, slice_get, Option, Some, ◌==◌, if◌then◌else◌}
use Rattle.std.specs.List.{flat_map}
use Rattle.btf_tables.specs.HalfWords.{half_at, half_bytes}
use Rattle.btf_records.specs.Words.{word_at, words_bytes}
use Rattle.btf_encoding.specs.Records.{Spells, TypesFault, record_bytes}
use Rattle.btf_records.specs.declared.error.BtfError.{BtfError}
use Rattle.btf_records.specs.declared.error.BtfError.TheVariants.{InvalidHeader, InvalidTypeInfo, InvalidTypeKind}
use Rattle.btf_records.specs.declared.types.BtfType.{BtfType}
use Rattle.btf_records.specs.declared.types.BtfType.TheVariants as types
use Rattle.btf_records.specs.declared.words.Endianness.{Endianness}
use Rattle.btf_records.specs.declared.words.Endianness.TheVariants.{Little}

pub record Table : Type 0 where
  pub order : Endianness
  pub magic : ℕ
  pub version : ℕ
  pub flags : ℕ
  pub strings : List ℕ
  pub types : List BtfType

-- The type of an id. Ids count from 1, and id 0 is void.
abbrev pub type_by_id : Table → ℕ → Option BtfType
type_by_id table id = if id == 0 then Some types.Unknown else slice_get table.types (id - 1)

-- The header: magic, version, flags, its own length, and the offsets and lengths of the types and
-- the strings. The offsets count from the end of the header.
abbrev pub header_len : ℕ
header_len = 24

abbrev pub types_start : Endianness → List ℕ → ℕ
types_start order bytes = word_at order bytes 4 + word_at order bytes 8

abbrev pub types_end : Endianness → List ℕ → ℕ
types_end order bytes = types_start order bytes + word_at order bytes 12

abbrev pub strings_start : Endianness → List ℕ → ℕ
strings_start order bytes = word_at order bytes 4 + word_at order bytes 16

abbrev pub strings_end : Endianness → List ℕ → ℕ
strings_end order bytes = strings_start order bytes + word_at order bytes 20

abbrev pub type_bytes_in : Endianness → List ℕ → List ℕ
type_bytes_in order bytes = take (word_at order bytes 12) (drop (types_start order bytes) bytes)

abbrev pub string_bytes_in : Endianness → List ℕ → List ℕ
string_bytes_in order bytes = take (word_at order bytes 20) (drop (strings_start order bytes) bytes)

-- The section holds the table. Neither its magic nor its version is checked.
pub record IsTable (order : Endianness) (bytes : List ℕ) (table : Table) : Type 0 where
  pub head : header_len ≤ length bytes
  pub strings_within : strings_end order bytes ≤ length bytes
  pub types_within : types_end order bytes ≤ length bytes
  pub same_order : table.order ≡ order
  pub magic : table.magic ≡ half_at order bytes 0
  pub version : table.version ≡ slice_index bytes 2
  pub flags : table.flags ≡ slice_index bytes 3
  pub strings : table.strings ≡ string_bytes_in order bytes
  pub types : Spells order table.types (type_bytes_in order bytes)

-- The reason why the section holds no table.
abbrev pub TableFault : Endianness → List ℕ → BtfError → Type 0
TableFault order bytes InvalidHeader =
    (length bytes < header_len)
    ⊎ ((header_len ≤ length bytes) × (length bytes < strings_end order bytes))
TableFault order bytes InvalidTypeInfo =
    (header_len ≤ length bytes)
    × ((length bytes < types_end order bytes)
    ⊎ ((types_end order bytes ≤ length bytes)
    × TypesFault order (type_bytes_in order bytes) InvalidTypeInfo))
TableFault order bytes (InvalidTypeKind kind) =
    (header_len ≤ length bytes)
    × (types_end order bytes ≤ length bytes)
    × TypesFault order (type_bytes_in order bytes) (InvalidTypeKind kind)
TableFault order bytes _ = ⊥

-- The bytes of the records of a table.
abbrev pub type_bytes : Table → List ℕ
type_bytes table = flat_map (record_bytes table.order) table.types

-- A header. The types follow the header, and the strings follow the types.
abbrev pub header_bytes : Endianness → ℕ → ℕ → ℕ → ℕ → ℕ → List ℕ
header_bytes order magic version flags types_len strings_len =
    half_bytes order magic ++ version ∷ flags ∷ []
    ++ words_bytes order (header_len ∷ 0 ∷ types_len ∷ types_len ∷ strings_len ∷ [])

-- The section that a table is written as: header, types and strings, with nothing between them.
abbrev pub table_bytes : Table → List ℕ
table_bytes table =
    header_bytes table.order table.magic table.version table.flags (length (type_bytes table))
    (length table.strings) ++ type_bytes table ++ table.strings

-- A new table: no type except void, and the empty text.
abbrev pub new_table : Table
new_table =
    record { order = Little; magic = 60319; version = 1; flags = 0; strings = 0 ∷ []; types = [] }

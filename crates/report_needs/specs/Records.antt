-- The first record of a kind and a name in a kernel's types.
use Rattle.std.specs.Prelude.{ℕ, ◌==◌, ◌&&◌, Bool, false, List, Option, bytes_eq, find, nat_lt}
use Rattle.std.specs.Option.{option_map_or}
use Rattle.btf_encoding.specs.Records.{count_of}
use Rattle.btf_records.specs.Fields.{kind_of_type, name_offset_of}
use Rattle.btf_records.specs.Kinds.{number_of}
use Rattle.btf_records.specs.declared.kind.BtfKind.{BtfKind}
use Rattle.btf_records.specs.declared.types.BtfType.{BtfType}
use Rattle.btf_search.specs.NamedTypes.{ids_of}
use Rattle.btf_tables.specs.Tables.{Table, type_by_id}
use Rattle.string_table.specs.Texts.{text_at}

-- Whether a record has the kind and the name. A name that can't be read is not the name.
abbrev pub is_named : Table → BtfKind → List ℕ → BtfType → Bool
is_named kernel kind name t =
    (number_of kind == number_of (kind_of_type t))
    && option_map_or (λ text. bytes_eq text name) (text_at kernel.strings (name_offset_of t)) false

-- Whether the record with an id has them.
abbrev pub is_named_at : Table → BtfKind → List ℕ → ℕ → Bool
is_named_at kernel kind name id =
    option_map_or (is_named kernel kind name) (type_by_id kernel id) false

-- The id of the first record of a kind and a name.
abbrev pub first_named : Table → BtfKind → List ℕ → Option ℕ
first_named kernel kind name = find (is_named_at kernel kind name) (ids_of kernel)

-- Whether a record is an enum of this kind and name. One without variants declares an enum, and
-- isn't it.
abbrev pub is_enum : Table → BtfKind → List ℕ → BtfType → Bool
is_enum kernel kind name t = is_named kernel kind name t && nat_lt 0 (count_of t)

abbrev pub is_enum_at : Table → BtfKind → List ℕ → ℕ → Bool
is_enum_at kernel kind name id = option_map_or (is_enum kernel kind name) (type_by_id kernel id) false

-- The id of the first enum of a kind and a name.
abbrev pub first_enum : Table → BtfKind → List ℕ → Option ℕ
first_enum kernel kind name = find (is_enum_at kernel kind name) (ids_of kernel)

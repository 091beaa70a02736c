-- Types of a table by kind and name, without flavours.
use Rattle.std.specs.Prelude.{ℕ, suc, Bool, true, false, ◌&&◌, ◌==◌, nat_eq, List, [], filter, length, slice_get, Option}
use Rattle.std.specs.Cmp.Lexicographic.{pointwise}
use Rattle.std.specs.List.{list_any, range_with_len}
use Rattle.std.specs.Option.{option_map, option_map_or}
use Rattle.btf_records.specs.Fields.{kind_of_type, name_offset_of}
use Rattle.btf_records.specs.Kinds.{number_of}
use Rattle.btf_records.specs.declared.kind.BtfKind.{BtfKind}
use Rattle.btf_records.specs.declared.types.BtfType.{BtfType}
use Rattle.btf_tables.specs.EssentialNames.{essential_name}
use Rattle.btf_tables.specs.Tables.{Table, type_by_id}
use Rattle.string_table.specs.Texts.{text_at}

-- The ids of a table, including that of void.
abbrev pub ids_of : Table → List ℕ
ids_of table = range_with_len 0 (suc (length table.types))

abbrev pub has_kind : List BtfKind → BtfKind → Bool
has_kind kinds kind = list_any (λ k. number_of k == number_of kind) kinds

-- Whether a type has one of the kinds, and has the name or a name that can't be read.
abbrev pub is_asked : List BtfKind → List ℕ → BtfKind → Option (List ℕ) → Bool
is_asked kinds name kind found =
    has_kind kinds kind && option_map_or (λ text. pointwise nat_eq text name) found true

-- The name of a type without its flavour, if it can be read.
abbrev pub name_of : Table → BtfType → Option (List ℕ)
name_of table t = option_map essential_name (text_at table.strings (name_offset_of t))

-- Whether the kind and the name of an id's type pass a test.
abbrev pub is_so : (BtfKind → Option (List ℕ) → Bool) → Table → ℕ → Bool
is_so test table id =
    option_map_or (λ t. test (kind_of_type t) (name_of table t)) (type_by_id table id) false

-- The ids of the types with one of these kinds, and with this name or a name that can't be read, in
-- order.
abbrev pub named_ids : List BtfKind → List ℕ → Table → List ℕ
named_ids kinds name table = filter (is_so (is_asked kinds name) table) (ids_of table)

-- These ids in the table at an index, if there is one.
abbrev pub named_ids_at : List BtfKind → List ℕ → List Table → ℕ → List ℕ
named_ids_at kinds name tables table =
    option_map_or (named_ids kinds name) (slice_get tables table) []

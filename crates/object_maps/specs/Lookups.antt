-- The types that the members of a map's struct refer to. libbpf has these look-ups in
-- `parse_btf_map_def` and `get_map_field_int` (tools/lib/bpf/libbpf.c).
use Rattle.std.specs.Prelude.{ℕ, ◌==◌, Bool, true, false, List, [], Option, None, Some, Result, Ok, Err, unwrap_or, if◌then◌else◌}
use Rattle.std.specs.Option.{ok_or, option_map_or}
use Rattle.btf_records.specs.Fields.{array_of, members_of, type_of, var_of}
use Rattle.btf_records.specs.declared.error.BtfError.{BtfError}
use Rattle.btf_records.specs.declared.error.BtfError.TheVariants.{InvalidStringOffset, UnexpectedBtfType, UnknownBtfType}
use Rattle.btf_records.specs.declared.item.BtfArray.{BtfArray}
use Rattle.btf_records.specs.declared.item.BtfMember.{BtfMember}
use Rattle.btf_records.specs.declared.types.BtfType.{BtfType}
use Rattle.btf_records.specs.declared.types.BtfType.TheVariants as types
use Rattle.btf_records.specs.declared.variables.Var.{Var}
use Rattle.btf_tables.specs.ResolvedTypes.{resolved_type}
use Rattle.btf_tables.specs.Tables.{Table, type_by_id}
use Rattle.btf_tables.specs.TypeSizes.{type_size_in_32_bits}
use Rattle.string_table.specs.Texts.{text_at}
use Rattle.object_maps.specs.declared.lookup.DefinitionError.{DefinitionError}
use Rattle.object_maps.specs.declared.lookup.DefinitionError.TheVariants.{Types, ValuesWithCount}
use Rattle.object_maps.specs.declared.lookup.SizedType.{SizedType}

-- The result of a second step that uses the value of a first step, or the first step's error.
abbrev pub and_then : {A B E : Type 0} → (A → Result B E) → Result A E → Result B E
and_then next (Ok a) = next a
and_then next (Err e) = Err e

abbrev pub answer_map : {A B E : Type 0} → (A → B) → Result A E → Result B E
answer_map f (Ok a) = Ok (f a)
answer_map f (Err e) = Err e

-- The result with its type error as an error of a definition.
abbrev pub in_types : {A : Type 0} → Result A BtfError → Result A DefinitionError
in_types (Ok a) = Ok a
in_types (Err e) = Err (Types e)

-- The error for a record of an unexpected kind. It names the type that the record refers to.
abbrev pub unexpected : BtfType → BtfError
unexpected t = UnexpectedBtfType (unwrap_or (type_of t) 0)

-- The type that a pointer points to.
abbrev pub target_of : BtfType → Option ℕ
target_of (types.Ptr t) = Some t.btf_type
target_of _ = None

abbrev pub is_struct : BtfType → Bool
is_struct (types.Struct t) = true
is_struct _ = false

-- The result of reading the record of an id.
abbrev pub of_record : {A : Type 0} → (BtfType → Result A BtfError) → Table → ℕ → Result A BtfError
of_record read table id = option_map_or read (type_by_id table id) (Err (UnknownBtfType id))

-- The look-ups by id of the target of a pointer, of an array and of a variable.
abbrev pub pointer_target : Table → ℕ → Result ℕ BtfError
pointer_target table id = of_record (λ t. ok_or (target_of t) (unexpected t)) table id

abbrev pub array_at : Table → ℕ → Result BtfArray BtfError
array_at table id = of_record (λ t. ok_or (array_of t) (unexpected t)) table id

abbrev pub variable_at : Table → ℕ → Result Var BtfError
variable_at table id = of_record (λ t. ok_or (var_of t) (unexpected t)) table id

-- The id of a chain of modifiers' end, if it is a struct.
abbrev pub struct_at_end : Table → ℕ → Result ℕ BtfError
struct_at_end table end =
    of_record (λ t. if is_struct t then Ok end else Err (unexpected t)) table end

abbrev pub struct_after_modifiers : Table → ℕ → Result ℕ BtfError
struct_after_modifiers table id = and_then (struct_at_end table) (resolved_type table id)

-- A number, encoded as the length of the array that a pointer points to (libbpf's `__uint`).
abbrev pub number_of : Table → ℕ → Result ℕ BtfError
number_of table id =
    and_then (λ target. answer_map (λ a. a.len) (array_at table target)) (pointer_target table id)

-- The type that a pointer points to, and its size (libbpf's `__type`). The error for a type that
-- isn't a pointer names the member's type.
abbrev pub typed_target : Table → ℕ → Result ℕ BtfError
typed_target table id = of_record (λ t. ok_or (target_of t) (UnexpectedBtfType id)) table id

abbrev pub with_size : Table → ℕ → Result SizedType BtfError
with_size table id =
    answer_map (λ size. record { type_id = id; size = size }) (type_size_in_32_bits table id)

abbrev pub sized_target : Table → ℕ → Result SizedType BtfError
sized_target table id = and_then (with_size table) (typed_target table id)

-- The struct of the inner maps: the member is an array without elements of pointers to the struct
-- (libbpf's `__array`).
abbrev pub struct_of_element : Table → ℕ → Result ℕ BtfError
struct_of_element table element =
    and_then (struct_after_modifiers table) (and_then (pointer_target table) (resolved_type table element))

abbrev pub struct_of_values : Table → BtfArray → Result ℕ DefinitionError
struct_of_values table a =
    if a.len == 0 then in_types (struct_of_element table a.element_type) else Err ValuesWithCount

abbrev pub values_struct : Table → ℕ → Result ℕ DefinitionError
values_struct table id = and_then (struct_of_values table) (in_types (array_at table id))

-- The string at an offset of the string table.
abbrev pub name_at : Table → ℕ → Result (List ℕ) BtfError
name_at table offset = ok_or (text_at table.strings offset) (InvalidStringOffset offset)

abbrev pub members_at : Table → ℕ → List BtfMember
members_at table id = option_map_or members_of (type_by_id table id) []

-- The candidates for a local type: the types of a kernel with its kind and name ("type flavors";
-- `bpf_core_add_cands`, tools/lib/bpf/libbpf.c).
use Rattle.std.specs.Prelude.{ℕ, suc, Bool, false, ◌&&◌, ◌||◌, ◌==◌, nat_eq, is_none, is_some, List, [], map, filter, find, length, slice_get, Option, Result, Ok, Err}
use Rattle.std.specs.Cmp.Lexicographic.{pointwise}
use Rattle.std.specs.List.{flat_map, range_with_len}
use Rattle.std.specs.Option.{option_and_then, option_map_or}
use Rattle.btf_records.specs.Fields.{fallback_of, kind_of_type, name_offset_of}
use Rattle.btf_records.specs.Kinds.{number_of}
use Rattle.btf_records.specs.declared.error.BtfError.{BtfError}
use Rattle.btf_records.specs.declared.error.BtfError.TheVariants.{InvalidStringOffset, UnknownBtfType}
use Rattle.btf_records.specs.declared.kind.BtfKind.{BtfKind}
use Rattle.btf_records.specs.declared.kind.BtfKind.TheVariants as kinds
use Rattle.btf_records.specs.declared.types.BtfType.{BtfType}
use Rattle.btf_tables.specs.EssentialNames.{essential_name}
use Rattle.btf_tables.specs.Tables.{Table, type_by_id}
use Rattle.string_table.specs.Texts.{text_at}
use Rattle.core_match.specs.declared.error.CandidateError.{CandidateError}
use Rattle.core_match.specs.declared.error.CandidateError.TheVariants.{UnreadableName}
use Rattle.core_match.specs.declared.kernel_type.KernelType.{KernelType}

-- The kind and the name of the candidates, without flavour. For a union that stands for a 64-bit
-- enum, such enums are candidates too.
pub record Wanted : Type 0 where
  pub kind : BtfKind
  pub or_enum64 : Bool
  pub name : List ℕ

abbrev pub wanted_of : BtfType → List ℕ → Wanted
wanted_of t name = record {
  kind = kind_of_type t;
  or_enum64 = is_some (fallback_of t);
  name = essential_name name;
}

-- The kind and name for a local type, whose name must be readable.
abbrev pub wanted_for : Table → ℕ → Result Wanted BtfError
wanted_for local id =
    option_map_or
    (λ t.
    option_map_or (λ name. Ok (wanted_of t name)) (text_at local.strings (name_offset_of t))
    (Err (InvalidStringOffset (name_offset_of t))))
    (type_by_id local id) (Err (UnknownBtfType id))

abbrev pub is_of_kind : Wanted → BtfType → Bool
is_of_kind wanted t =
    (number_of (kind_of_type t) == number_of wanted.kind)
    || (wanted.or_enum64 && (number_of (kind_of_type t) == number_of kinds.Enum64))

-- Whether a type has the kind of a candidate and a name that can't be read.
abbrev pub is_unreadable : Wanted → List ℕ → BtfType → Bool
is_unreadable wanted strings t = is_of_kind wanted t && is_none (text_at strings (name_offset_of t))

-- Whether a type has the kind and the name of a candidate. Flavours are ignored.
abbrev pub is_named : Wanted → List ℕ → BtfType → Bool
is_named wanted strings t =
    is_of_kind wanted t
    && option_map_or (λ text. pointwise nat_eq (essential_name text) wanted.name)
    (text_at strings (name_offset_of t)) false

-- The first types of a table, by id.
abbrev pub first_types : ℕ → ℕ → List KernelType
first_types table count =
    map (λ id. record { table = table; type_id = id }) (range_with_len 0 count)

-- The types of a kernel's table, by id. The first is void.
abbrev pub types_at : List Table → ℕ → List KernelType
types_at targets table =
    option_map_or (λ target. first_types table (suc (length target.types)))
    (slice_get targets table) []

abbrev pub all_types : List Table → List KernelType
all_types targets = flat_map (types_at targets) (range_with_len 0 (length targets))

-- Whether a type of a table passes a test.
abbrev pub asked_of : (List ℕ → BtfType → Bool) → Option Table → ℕ → Bool
asked_of test target id =
    option_map_or (λ table. option_map_or (test table.strings) (type_by_id table id) false) target
    false

abbrev pub is_unreadable_at : Wanted → List Table → KernelType → Bool
is_unreadable_at wanted targets place =
    asked_of (is_unreadable wanted) (slice_get targets place.table) place.type_id

abbrev pub is_candidate : Wanted → List Table → KernelType → Bool
is_candidate wanted targets place =
    asked_of (is_named wanted) (slice_get targets place.table) place.type_id

abbrev pub name_offset_at : List Table → KernelType → ℕ
name_offset_at targets place =
    option_map_or name_offset_of
    (option_and_then (λ table. type_by_id table place.type_id) (slice_get targets place.table)) 0

abbrev pub unreadable : List Table → KernelType → CandidateError
unreadable targets place = UnreadableName place (name_offset_at targets place)

-- The candidates in these tables. All names of types with the kind must be readable.
abbrev pub candidates : Wanted → List Table → Result (List KernelType) CandidateError
candidates wanted targets =
    option_map_or (λ place. Err (unreadable targets place))
    (find (is_unreadable_at wanted targets) (all_types targets))
    (Ok (filter (is_candidate wanted targets) (all_types targets)))

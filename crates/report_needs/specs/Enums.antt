-- Numbers in the kernel's enums, such as the helpers of bpf_func_id and the map types of
-- bpf_map_type.
use Rattle.std.specs.Prelude.{◌≡◌, ℕ, ℤ, pos, nat_eq, ◌==◌, ◌&&◌, ◌||◌, not, Bool, false, List, Option, None, Some, is_some, option_and_then, codes, find, if◌then◌else◌}
use Rattle.std.specs.Int.{w32, w64, cast_signed, cast_unsigned}
use Rattle.std.specs.List.{ends_with, starts_with}
use Rattle.std.specs.Option.{option_map, option_map_or, option_or}
use Rattle.btf_encoding.specs.Records.{bits_of}
use Rattle.btf_records.specs.Fields.{variants_of, variants64_of}
use Rattle.btf_records.specs.Items.{value_of}
use Rattle.btf_records.specs.declared.kind.BtfKind.TheVariants as kinds
use Rattle.btf_records.specs.declared.types.BtfType.{BtfType}
use Rattle.btf_tables.specs.Tables.{Table, type_by_id}
use Rattle.report_needs.specs.Records.{first_enum}
use Rattle.report_needs.specs.declared.enums.EnumIds.{EnumIds}
use Rattle.report_needs.specs.declared.enums.Presence.{Presence}
use Rattle.report_needs.specs.declared.enums.Presence.TheVariants.{Found, Missing, Unknown}
use Rattle.string_table.specs.Texts.{text_at}

-- The kernel's enum of a name: the first one of 32 bits that has variants, or if there is none the
-- first one of 64 bits.
abbrev pub enum_of : Table → List ℕ → Option ℕ
enum_of kernel name =
    option_or (first_enum kernel kinds.Enum name) (first_enum kernel kinds.Enum64 name)

-- Whether a variant's name is that of the one for none: it ends in `_unspec` or `_UNSPEC`
-- (BPF_FUNC_unspec, BPF_MAP_TYPE_UNSPEC).
abbrev pub is_for_none : List ℕ → Bool
is_for_none name =
    ends_with nat_eq name (codes "_unspec") || ends_with nat_eq name (codes "_UNSPEC")

-- Whether the value of a variant isn't a number that the kernel has. The variant is the one for
-- none, or it marks the end of its enum, that is, its name begins with two underscores
-- (__BPF_FUNC_MAX_ID, __MAX_BPF_MAP_TYPE).
abbrev pub is_marker : Table → ℕ → Bool
is_marker kernel name_offset =
    option_map_or (λ text. starts_with nat_eq text (codes "__") || is_for_none text)
    (text_at kernel.strings name_offset) false

-- A value of 32 bits, signed or unsigned, as a value of 64 bits.
abbrev pub widened : Bool → ℕ → ℕ
widened is_signed value =
    if is_signed then cast_unsigned w64 (cast_signed w32 value) else value

-- Whether a variant of this name and value has a number.
abbrev pub has_number : Table → ℕ → ℕ → ℕ → Bool
has_number kernel name_offset value number =
    (value == number) && not (is_marker kernel name_offset)

-- The name offset of the first variant that has a number, in an enum of 32 bits and in one of 64
-- bits. A record that isn't an enum has none.
abbrev pub variant_32 : Table → BtfType → ℕ → Option ℕ
variant_32 kernel t number =
    option_map (λ v. v.name_offset)
    (find (λ v. has_number kernel v.name_offset (widened (bits_of t).flag v.value) number)
    (variants_of t))

abbrev pub variant_64 : Table → BtfType → ℕ → Option ℕ
variant_64 kernel t number =
    option_map (λ v. v.name_offset)
    (find (λ v. has_number kernel v.name_offset (value_of v) number) (variants64_of t))

-- The name offset of the first such variant in the enum with an id.
abbrev pub name_at_number : Table → ℕ → ℕ → Option ℕ
name_at_number kernel id number =
    option_and_then (λ t. option_or (variant_32 kernel t number) (variant_64 kernel t number))
    (type_by_id kernel id)

-- Whether the enum with an id has a number.
abbrev pub presence_at : Table → Option ℕ → ℕ → Presence
presence_at kernel None number = Unknown
presence_at kernel (Some id) number =
    if is_some (name_at_number kernel id number) then Found else Missing

-- Whether the kernel's enum of a name has a number.
abbrev pub presence_in : Table → List ℕ → ℕ → Presence
presence_in kernel name number = presence_at kernel (enum_of kernel name) number

abbrev pub map_presence : Table → ℕ → Presence
map_presence kernel map_type = presence_in kernel (codes "bpf_map_type") map_type

-- The enum of the kernel's helpers.
abbrev pub func_ids : Table → Option ℕ
func_ids kernel = enum_of kernel (codes "bpf_func_id")

-- The ids are those of the kernel's enums of numbers.
pub record AreEnums (kernel : Table) (enums : EnumIds) : Type 0 where
  pub program_types : enums.program_types ≡ enum_of kernel (codes "bpf_prog_type")
  pub attach_types : enums.attach_types ≡ enum_of kernel (codes "bpf_attach_type")
  pub map_types : enums.map_types ≡ enum_of kernel (codes "bpf_map_type")
  pub helpers : enums.helpers ≡ func_ids kernel
  pub linkages : enums.linkages ≡ enum_of kernel (codes "btf_func_linkage")

-- Whether the kernel has a helper. A negative number is compared as its 64 bits.
abbrev pub helper_presence : Table → Option ℕ → ℤ → Presence
helper_presence kernel id helper = presence_at kernel id (cast_unsigned w64 helper)

abbrev pub missing_or_unknown : Presence → Presence
missing_or_unknown Missing = Missing
missing_or_unknown Found = Unknown
missing_or_unknown Unknown = Unknown

-- Whether the kernel has linkages of functions (enum btf_func_linkage, of Linux 5.6). It lacks them if
-- it lacks helper 118 (bpf_jiffies64), which came with the same version. Its types may lack the enum.
abbrev pub linkage_presence : Table → Presence
linkage_presence kernel =
    if is_some (enum_of kernel (codes "btf_func_linkage")) then Found
    else missing_or_unknown (helper_presence kernel (func_ids kernel) (pos 118))

-- The name of the first variant that has a helper's number, of the enum with an id.
abbrev pub helper_name : Table → Option ℕ → ℤ → Option (List ℕ)
helper_name kernel id helper =
    option_and_then (text_at kernel.strings)
    (option_and_then (λ id. name_at_number kernel id (cast_unsigned w64 helper)) id)

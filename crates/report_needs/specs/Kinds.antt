-- The kinds of records that a kernel has. Its types have their numbers since Linux 5.16, in an enum
-- without a name (BTF_KIND_UNKN and so on in include/uapi/linux/btf.h). Before, functions tell them.
use Rattle.std.specs.Prelude.{ℕ, ◌==◌, ◌&&◌, nat_eq, Bool, false, List, [], ◌∷◌, Option, None, Some, bytes_eq, codes, filter, find, if◌then◌else◌, is_some, map, slice_get}
use Rattle.std.specs.List.{list_any, starts_with}
use Rattle.std.specs.Option.{option_map_or}
use Rattle.btf_records.specs.Fields.{kind_of_type, variants_of}
use Rattle.btf_records.specs.Kinds.{all_kinds, kind_of, number_of}
use Rattle.btf_records.specs.declared.kind.BtfKind.{BtfKind}
use Rattle.btf_records.specs.declared.kind.BtfKind.TheVariants as kinds
use Rattle.btf_records.specs.declared.item.BtfEnum.{BtfEnum}
use Rattle.btf_records.specs.declared.types.BtfType.{BtfType}
use Rattle.btf_tables.specs.Tables.{Table}
use Rattle.report_needs.specs.CheckFunctions.{check_functions, checked_presence}
use Rattle.report_needs.specs.Records.{is_named}
use Rattle.report_needs.specs.declared.enums.Presence.{Presence}
use Rattle.report_needs.specs.declared.enums.Presence.TheVariants.{Found, Missing, Unknown}
use Rattle.report_needs.specs.declared.kinds.KindNeed.{KindNeed}
use Rattle.report_needs.specs.declared.kinds.RecordKinds.{RecordKinds}
use Rattle.report_needs.specs.declared.kinds.RecordKinds.TheVariants.{Checked, Numbered}
use Rattle.string_table.specs.Texts.{text_at}

-- Whether a variant has the name of kind 0.
abbrev pub is_first_kind : Table → BtfEnum → Bool
is_first_kind kernel v =
    option_map_or (λ text. bytes_eq text (codes "BTF_KIND_UNKN"))
    (text_at kernel.strings v.name_offset) false

-- Whether a record is the enum of the numbers: it is an enum of 32 bits without a name, and its
-- first variant is BTF_KIND_UNKN.
abbrev pub is_kind_enum : Table → BtfType → Bool
is_kind_enum kernel t =
    is_named kernel kinds.Enum [] t
    && option_map_or (is_first_kind kernel) (slice_get (variants_of t) 0) false

-- The first record that is the enum of the numbers.
abbrev pub kind_enum : Table → Option BtfType
kind_enum kernel = find (is_kind_enum kernel) kernel.types

-- Whether a variant is the number of a kind. NR_BTF_KINDS is the number of none.
abbrev pub is_kind_number : Table → ℕ → BtfEnum → Bool
is_kind_number kernel number v =
    (v.value == number)
    && option_map_or (λ text. starts_with nat_eq text (codes "BTF_KIND_"))
    (text_at kernel.strings v.name_offset) false

abbrev pub kind_number : Table → ℕ → BtfType → Option BtfEnum
kind_number kernel number t = find (is_kind_number kernel number) (variants_of t)

-- What tells the kinds of a kernel's records: the enum, or if there is none, the functions that check
-- records.
abbrev pub record_kinds_of : Table → RecordKinds
record_kinds_of kernel =
    option_map_or (λ t. Numbered t) (kind_enum kernel) (Checked (check_functions kernel))

abbrev pub presence_among : Table → RecordKinds → BtfKind → Presence
presence_among kernel (Numbered t) kind =
    if is_some (kind_number kernel (number_of kind) t) then Found else Missing
presence_among kernel (Checked functions) kind = checked_presence functions kind

-- Whether a kernel has records of a kind.
abbrev pub kind_presence : Table → BtfKind → Presence
kind_presence kernel kind = presence_among kernel (record_kinds_of kernel) kind

-- The same of a kernel whose types may not be given.
abbrev pub presence_on : Option Table → BtfKind → Presence
presence_on None kind = Unknown
presence_on (Some kernel) kind = kind_presence kernel kind

-- Whether the number of a kind is one of these.
abbrev pub is_among : List ℕ → BtfKind → Bool
is_among numbers kind = list_any (λ n. n == number_of kind) numbers

-- The kinds of the records of a table, in the order of their numbers.
abbrev pub kinds_in : Table → List BtfKind
kinds_in table =
    filter (is_among (map (λ t. number_of (kind_of_type t)) table.types)) all_kinds

-- The kind with a number, where the number is one of these.
abbrev pub kind_among : List ℕ → ℕ → List BtfKind
kind_among numbers number = filter (is_among numbers) (kind_of number ∷ [])

-- The need of a kind, and of all kinds of a table's records.
unfoldable pub kind_need : Option Table → BtfKind → KindNeed
kind_need kernel kind = record { kind = kind; presence = presence_on kernel kind }

abbrev pub kind_needs : Option Table → Option Table → List KindNeed
kind_needs kernel None = []
kind_needs kernel (Some table) = map (kind_need kernel) (kinds_in table)

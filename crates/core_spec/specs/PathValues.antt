-- The value that a kind of type relocations requires of a path (`bpf_core_calc_relo_insn`,
-- tools/lib/bpf/relo_core.c).
use Rattle.std.specs.Prelude.{ℕ, ◌-◌, length, slice_get, Option, Some, Result, Ok, Err}
use Rattle.std.specs.Option.{option_map_or}
use Rattle.core_spec.specs.FieldValues.{element_value, member_value, plain}
use Rattle.core_spec.specs.Lookups.{with_found, with_type}
use Rattle.core_spec.specs.VariantValues.{variant_value}
use Rattle.core_spec.specs.declared.error.AccessError.{AccessError}
use Rattle.core_spec.specs.declared.error.AccessError.TheVariants.{InvalidRelocationKindForType}
use Rattle.core_spec.specs.declared.path.AccessPath.{AccessPath}
use Rattle.core_spec.specs.declared.path.Step.{Step}
use Rattle.core_spec.specs.declared.path.Step.TheVariants.{Element, Member, Variant}
use Rattle.core_spec.specs.declared.value.RelocationValue.{RelocationValue}
use Rattle.btf_tables.specs.Tables.{Table}
use Rattle.btf_tables.specs.TypeSizes.{type_size_in_32_bits}
use Rattle.ebpf_items.specs.declared.relocation_kind.RelocationKind.{RelocationKind}
use Rattle.ebpf_items.specs.declared.relocation_kind.RelocationKind.TheVariants as kinds

abbrev pub last_step : AccessPath → Option Step
last_step path = slice_get path.steps (length path.steps - 1)

-- The value of a path to a field. Such a path ends at an element or a member.
abbrev pub value_at : Table
    → RelocationKind
    → AccessPath
    → Option Step
    → Result RelocationValue AccessError
value_at table kind path (Some (Element place)) =
    element_value table kind place.type_id path.bit_offset
value_at table kind path (Some (Member place)) = member_value table kind place path.bit_offset
value_at table kind path _ = Err (InvalidRelocationKindForType path.type_id)

abbrev pub field_value : Table → RelocationKind → AccessPath → Result RelocationValue AccessError
field_value table kind path = value_at table kind path (last_step path)

abbrev pub type_size_value : Table → ℕ → Result RelocationValue AccessError
type_size_value table id = with_found (type_size_in_32_bits table id) (λ size. Ok (plain size))

-- The value of a path to a variant.
abbrev pub enum_value_at : Table → AccessPath → Option Step → Result RelocationValue AccessError
enum_value_at table path (Some (Variant place)) =
    with_type table place.type_id (λ t.
    option_map_or (λ value. Ok (plain value)) (variant_value t place.index)
    (Err (InvalidRelocationKindForType place.type_id)))
enum_value_at table path _ = Err (InvalidRelocationKindForType path.type_id)

abbrev pub enum_value : Table → AccessPath → Result RelocationValue AccessError
enum_value table path = enum_value_at table path (last_step path)

abbrev pub path_value : Table → RelocationKind → AccessPath → Result RelocationValue AccessError
path_value table kinds.FieldExists path = Ok (plain 1)
path_value table kinds.TypeExists path = Ok (plain 1)
path_value table kinds.EnumVariantExists path = Ok (plain 1)
path_value table kinds.TypeIdLocal path = Ok (plain path.type_id)
path_value table kinds.TypeIdTarget path = Ok (plain path.type_id)
path_value table kinds.TypeSize path = type_size_value table path.type_id
path_value table kinds.EnumVariantValue path = enum_value table path
path_value table kind path = field_value table kind path

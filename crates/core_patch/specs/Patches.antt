-- The patches of type relocations: a value, and for a load or a store at a field's offset the sizes
-- of the field that it was compiled for and of the field in the kernel (`bpf_core_patch_insn`,
-- tools/lib/bpf/relo_core.c).
use Rattle.std.specs.Prelude.{ℕ, ◌%◌, ◌==◌, ◌&&◌, ◌||◌, Bool, false, true, List, Option, Some, option_and_then, slice_get, if◌then◌else◌}
use Rattle.std.specs.Option.{option_map_or}
use Rattle.core_spec.specs.declared.field_values.WholeField.{WholeField}
use Rattle.btf_records.specs.Info.{encoding_in}
use Rattle.btf_records.specs.declared.types.BtfType.{BtfType}
use Rattle.btf_records.specs.declared.types.BtfType.TheVariants as types
use Rattle.btf_tables.specs.Tables.{Table, type_by_id}
use Rattle.core_resolve.specs.declared.resolved.Resolved.{Resolved}
use Rattle.core_resolve.specs.declared.resolved.Resolved.TheVariants as outcomes
use Rattle.core_resolve.specs.declared.relocation.RelocationOutcome.{RelocationOutcome}
use Rattle.core_patch.specs.declared.patch.Patch.{Patch}
use Rattle.core_patch.specs.declared.patch.Patch.TheVariants.{Poison, Value}
use Rattle.core_patch.specs.declared.patch.Width.{Width}
use Rattle.core_patch.specs.declared.patch.Width.TheVariants.{Changed, Kept, Unknown}

-- The size of a field. It is 0 where there is no whole field.
abbrev pub field_size : Option WholeField → ℕ
field_size field = option_map_or (λ f. f.size) field 0

-- The record of a field's type.
abbrev pub type_of : Option Table → Option WholeField → Option BtfType
type_of table field =
    option_and_then (λ f. option_and_then (λ t. type_by_id t f.type_id) table) field

-- Whether a type is an integer whose encoding lacks the bit for signed. Other bits are ignored.
abbrev pub is_unsigned : BtfType → Bool
is_unsigned (types.Int t) = encoding_in t.int_word % 2 == 0
is_unsigned _ = false

abbrev pub is_pointer : BtfType → Bool
is_pointer (types.Ptr t) = true
is_pointer _ = false

-- Whether a field can be read with another size: both types are pointers, or both are unsigned
-- integers.
abbrev pub are_alike : BtfType → BtfType → Bool
are_alike local target =
    (is_pointer local && is_pointer target) || (is_unsigned local && is_unsigned target)

abbrev pub may_stand_for : Option BtfType → Option BtfType → Bool
may_stand_for (Some local) (Some target) = are_alike local target
may_stand_for _ _ = false

-- The change of the width of a load or a store.
abbrev pub width_of : Table → Option Table → Option WholeField → Option WholeField → Width
width_of local target compiled field =
    if field_size compiled == field_size field then Kept
    else if may_stand_for (type_of (Some local) compiled) (type_of target field) then Changed
    (field_size field)
    else Unknown

abbrev pub patch_for : Table → Option Table → Option WholeField → Resolved → Patch
patch_for local target compiled (outcomes.Value v) =
    Value v.value (width_of local target compiled v.field)
patch_for local target compiled outcomes.Poison = Poison

-- The patch for an outcome. The target types are those of the table of the first match.
abbrev pub patch_of : Table → List Table → RelocationOutcome → Patch
patch_of local targets o =
    patch_for local (option_and_then (slice_get targets) o.table) o.local_field o.outcome

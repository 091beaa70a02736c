-- The bytes that hold a field. A bit field is in an aligned unit (`bpf_core_calc_field_relo`,
-- tools/lib/bpf/relo_core.c).
use Rattle.std.specs.Prelude.{ℕ, zero, suc, ◌+◌, ◌*◌, ◌/◌, ◌%◌, ◌==◌, Bool, Option, None, Some, if◌then◌else◌, nat_lt, nat_le}
use Rattle.std.specs.Option.{option_map}
use Rattle.core_spec.specs.declared.extent.Extent.{Extent}
use Rattle.core_spec.specs.declared.extent.Field.{Field}

-- Whether a bit field fits in the aligned unit of `unit` bytes in which it begins.
abbrev pub fits_unit : ℕ → ℕ → ℕ → Bool
fits_unit at bits unit = nat_le (at % (8 * unit) + bits) (8 * unit)

-- The first unit that the field fits in, where each unit has twice the size of the one before. A
-- unit of 8 bytes or more isn't doubled.
unfoldable pub unit_from : ℕ → ℕ → ℕ → ℕ → Option ℕ
unit_from zero at bits unit = None
unit_from (suc n) at bits unit =
    if fits_unit at bits unit then Some unit
    else if nat_lt unit 8 then unit_from n at bits (2 * unit)
    else None

-- The unit of a bit field whose type has this size. At most four units are tried: for a type of one
-- byte, units of 1, 2, 4 and 8 bytes.
abbrev pub unit_of : ℕ → ℕ → ℕ → Option ℕ
unit_of size at bits = if size == 0 then None else unit_from 4 at bits size

abbrev pub bit_field_extent : ℕ → ℕ → ℕ → Extent
bit_field_extent unit at bits =
    record { byte_offset = at / (8 * unit) * unit; byte_size = unit; start = at % (8 * unit); bits = bits }

abbrev pub whole_extent : ℕ → ℕ → Extent
whole_extent size at = record {
  byte_offset = at / 8;
  byte_size = size;
  start = at % 8;
  bits = 8 * size;
}

abbrev pub extent_of : Field → ℕ → Option Extent
extent_of field at =
    if field.bit_size == 0 then Some (whole_extent field.size at)
    else option_map (λ unit. bit_field_extent unit at field.bit_size)
    (unit_of field.size at field.bit_size)

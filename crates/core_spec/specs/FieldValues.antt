-- Values of fields (`bpf_core_calc_field_relo`, tools/lib/bpf/relo_core.c).
use Rattle.std.specs.Prelude.{ℕ, ◌+◌, ◌-◌, ◌/◌, ◌%◌, ◌==◌, Bool, false, slice_get, Option, None, Some, Result, Ok, Err, if◌then◌else◌, nat_lt}
use Rattle.std.specs.Option.{option_map_or}
use Rattle.core_spec.specs.Extents.{extent_of}
use Rattle.core_spec.specs.Lookups.{with_found, with_type}
use Rattle.core_spec.specs.declared.error.AccessError.{AccessError}
use Rattle.core_spec.specs.declared.error.AccessError.TheVariants as errors
use Rattle.core_spec.specs.declared.extent.Extent.{Extent}
use Rattle.core_spec.specs.declared.extent.Field.{Field}
use Rattle.core_spec.specs.declared.path.Place.{Place}
use Rattle.core_spec.specs.declared.value.RelocationValue.{RelocationValue}
use Rattle.btf_encoding.specs.Records.{bits_of}
use Rattle.btf_records.specs.Encodings.{encoding_of, number_of_encoding}
use Rattle.btf_records.specs.Fields.{members_of}
use Rattle.btf_records.specs.Info.{bit, encoding_in}
use Rattle.btf_records.specs.Items.{bit_size_of}
use Rattle.btf_records.specs.declared.error.BtfError.TheVariants.{InvalidTypeInfo}
use Rattle.btf_records.specs.declared.types.BtfType.{BtfType}
use Rattle.btf_records.specs.declared.types.BtfType.TheVariants as types
use Rattle.btf_tables.specs.ResolvedTypes.{resolved_type}
use Rattle.btf_tables.specs.Tables.{Table}
use Rattle.btf_tables.specs.TypeSizes.{type_size_in_32_bits}
use Rattle.ebpf_items.specs.declared.relocation_kind.RelocationKind.{RelocationKind}
use Rattle.ebpf_items.specs.declared.relocation_kind.RelocationKind.TheVariants as kinds

abbrev pub plain : ℕ → RelocationValue
plain value = record { value = value; field = None }

-- The difference of 64 and a number of bits.
abbrev pub shift_past : ℕ → Result RelocationValue AccessError
shift_past bits =
    if nat_lt 64 bits then Err (errors.BtfError InvalidTypeInfo) else Ok (plain (64 - bits))

-- The values of an element: its offset and its size.
abbrev pub element_value : Table → RelocationKind → ℕ → ℕ → Result RelocationValue AccessError
element_value table kinds.FieldByteOffset id at =
    with_found (type_size_in_32_bits table id) (λ size.
    Ok (record { value = at / 8; field = Some (record { type_id = id; size = size }) }))
element_value table kinds.FieldByteSize id at =
    with_found (type_size_in_32_bits table id) (λ size. Ok (plain size))
element_value table _ id at = Err (errors.InvalidRelocationKindForType id)

-- Whether values of a type are signed. For an integer, its encoding says so. An encoding that isn't
-- known counts as signed.
abbrev pub is_signed : BtfType → Bool
is_signed (types.Enum t) = t.info.flag
is_signed (types.Enum64 t) = t.info.flag
is_signed (types.Int t) = number_of_encoding (encoding_of (encoding_in t.int_word)) % 2 == 1
is_signed _ = false

-- The field of a member.
abbrev pub field_at : Table → Place → Result Field AccessError
field_at table place =
    with_type table place.type_id (λ t.
    option_map_or
    (λ m.
    with_found (resolved_type table m.btf_type) (λ id.
    with_found (type_size_in_32_bits table id) (λ size.
    Ok (record { type_id = id; size = size; bit_size = bit_size_of (bits_of t).flag m }))))
    (slice_get (members_of t) place.index)
    (Err (errors.InvalidRelocationKindForType place.type_id)))

-- The values of a field: the offset and the size of the bytes that hold it, its signedness, and the
-- two shifts, first left to the upper end of 64 bits and then right to the lower end.
abbrev pub of_extent : Table → RelocationKind → Field → Extent → Result RelocationValue AccessError
of_extent table kinds.FieldByteOffset field extent = Ok (record {
  value = extent.byte_offset;
  field =
      if field.bit_size == 0
      then Some (record { type_id = field.type_id; size = field.size })
      else None;
})
of_extent table kinds.FieldByteSize field extent = Ok (plain extent.byte_size)
of_extent table kinds.FieldSigned field extent =
    with_type table field.type_id (λ t. Ok (plain (bit (is_signed t))))
of_extent table kinds.FieldLShift64 field extent = shift_past (extent.start + extent.bits)
of_extent table kinds.FieldRShift64 field extent = shift_past extent.bits
of_extent table _ field extent = Err (errors.InvalidRelocationKindForType field.type_id)

abbrev pub with_extent : Option Extent
    → (Extent → Result RelocationValue AccessError)
    → Result RelocationValue AccessError
with_extent None go = Err (errors.BtfError InvalidTypeInfo)
with_extent (Some extent) go = go extent

abbrev pub of_field : Table
    → RelocationKind
    → ℕ
    → Result Field AccessError
    → Result RelocationValue AccessError
of_field table kind at (Err e) = Err e
of_field table kind at (Ok field) = with_extent (extent_of field at) (of_extent table kind field)

abbrev pub member_value : Table → RelocationKind → Place → ℕ → Result RelocationValue AccessError
member_value table kind place at = of_field table kind at (field_at table place)

-- The fields of the items in the lists of records.
use Rattle.std.specs.Prelude.{ℕ, ◌+◌, ◌*◌, ◌/◌, ◌%◌, ◌^◌, Bool, if◌then◌else◌}
use Rattle.btf_records.specs.declared.item.BtfMember.{BtfMember}
use Rattle.btf_records.specs.declared.item.BtfEnum64.{BtfEnum64}

-- The bit offset of a member and the size of its bit field, in a record whose flag is set or not
-- set ("BTF_KIND_STRUCT").
abbrev pub bit_offset_of : Bool → BtfMember → ℕ
bit_offset_of flag m = if flag then m.offset % 2 ^ 24 else m.offset

abbrev pub bit_size_of : Bool → BtfMember → ℕ
bit_size_of flag m = if flag then m.offset / 2 ^ 24 else 0

abbrev pub value_of : BtfEnum64 → ℕ
value_of v = v.value_high * 2 ^ 32 + v.value_low

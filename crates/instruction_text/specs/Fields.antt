-- The fields of an instruction (kernel documentation, instruction-set.rst, Instruction encoding).
use Rattle.std.specs.Prelude.{ℕ, ◌+◌, ◌*◌, ◌/◌, ◌%◌, ◌^◌, ◌==◌, ◌&&◌, Bool, if◌then◌else◌, Option, Some, None, ℤ, pos, option_map}
use Rattle.std.specs.Int.{w16, w32, w64, cast_signed, cast_unsigned}
use Rattle.std.specs.Ordering.{int_eq}
use Rattle.ebpf_items.specs.declared.instruction.bpf_insn.{bpf_insn}
use Rattle.ebpf_items.specs.Instruction.{dst_reg_of, src_reg_of}
use Rattle.instruction_text.specs.declared.parts.Parts.{Parts}
use Rattle.instruction_text.specs.declared.parts.Field.{Field}
use Rattle.instruction_text.specs.declared.parts.Field.TheVariants.{Destination, Source, Offset, Immediate, LowerHalf, UpperHalf, High, Wide}

-- The halves of an immediate, as numbers without a sign, and the immediate of two halves.
abbrev pub lower_half : ℤ → ℕ
lower_half immediate = cast_unsigned w32 immediate % 2 ^ 16

abbrev pub upper_half : ℤ → ℕ
upper_half immediate = cast_unsigned w32 immediate / 2 ^ 16

abbrev pub of_halves : ℕ → ℕ → ℤ
of_halves lower upper = cast_signed w32 (lower + 2 ^ 16 * upper)

-- The number in a field.
abbrev pub number_in : Field → Parts → ℤ
number_in Destination p = pos p.destination
number_in Source p = pos p.source
number_in Offset p = p.offset
number_in Immediate p = p.immediate
number_in LowerHalf p = pos (lower_half p.immediate)
number_in UpperHalf p = pos (upper_half p.immediate)
number_in High p = p.high
number_in Wide p =
    cast_signed w64 (cast_unsigned w32 p.immediate + 2 ^ 32 * cast_unsigned w32 p.high)

-- The fields `q`, with one field of `p`.
abbrev pub copied : Field → Parts → Parts → Parts
copied Destination p q = record q { destination = p.destination }
copied Source p q = record q { source = p.source }
copied Offset p q = record q { offset = p.offset }
copied Immediate p q = record q { immediate = p.immediate }
copied LowerHalf p q =
    record q { immediate = of_halves (lower_half p.immediate) (upper_half q.immediate) }
copied UpperHalf p q =
    record q { immediate = of_halves (lower_half q.immediate) (upper_half p.immediate) }
copied High p q = record q { high = p.high }
copied Wide p q = record q { immediate = p.immediate; high = p.high }

-- Fields with the low bits of a number in one of them.
abbrev pub with_bits : Field → ℕ → Parts → Parts
with_bits Destination bits q = record q { destination = bits % 16 }
with_bits Source bits q = record q { source = bits % 16 }
with_bits Offset bits q = record q { offset = cast_signed w16 (bits % 2 ^ 16) }
with_bits Immediate bits q = record q { immediate = cast_signed w32 (bits % 2 ^ 32) }
with_bits LowerHalf bits q =
    record q { immediate = of_halves (bits % 2 ^ 16) (upper_half q.immediate) }
with_bits UpperHalf bits q =
    record q { immediate = of_halves (lower_half q.immediate) (bits % 2 ^ 16) }
with_bits High bits q = record q { high = cast_signed w32 (bits % 2 ^ 32) }
with_bits Wide bits q =
    record q {
      immediate = cast_signed w32 (bits % 2 ^ 32);
      high = cast_signed w32 (bits / 2 ^ 32);
    }

abbrev pub are_same : Parts → Parts → Bool
are_same p q =
    p.code == q.code && p.destination == q.destination && p.source == q.source
    && int_eq p.offset q.offset
    && int_eq p.immediate q.immediate
    && int_eq p.high q.high

-- Whether the code, the registers and the offset of a second slot are 0.
abbrev pub is_plain : bpf_insn → Bool
is_plain s = s.code == 0 && dst_reg_of s == 0 && src_reg_of s == 0 && int_eq s.off (pos 0)

-- The high half of a wide immediate, if there is a second slot for it.
abbrev pub high_in : Option bpf_insn → Option ℤ
high_in None = None
high_in (Some s) = if is_plain s then Some s.imm else None

-- The high half of an instruction's immediate, 0 unless the instruction is a load of 64 bits. Only
-- such a load has a second slot.
abbrev pub high_of : bpf_insn → Option bpf_insn → Option ℤ
high_of first second = if first.code == 0x18 then high_in second else Some (pos 0)

abbrev pub parts_with : bpf_insn → ℤ → Parts
parts_with s high =
    record {
      code = s.code;
      destination = dst_reg_of s;
      source = src_reg_of s;
      offset = s.off;
      immediate = s.imm;
      high = high;
    }

-- The fields of an instruction, unless its second slot is missing.
abbrev pub parts_of : bpf_insn → Option bpf_insn → Option Parts
parts_of first second = option_map (parts_with first) (high_of first second)

abbrev pub first_slot : Parts → bpf_insn
first_slot p =
    record {
      code = p.code;
      registers = p.source % 16 * 16 + p.destination % 16;
      off = p.offset;
      imm = p.immediate;
    }

abbrev pub second_slot : ℤ → bpf_insn
second_slot high = record { code = 0; registers = 0; off = pos 0; imm = high }

abbrev pub second_slot_of : Parts → Option bpf_insn
second_slot_of p = if p.code == 0x18 then Some (second_slot p.high) else None

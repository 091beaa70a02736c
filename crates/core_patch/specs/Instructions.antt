-- The effect of a value on an instruction, by the instruction's class (instruction-set.rst,
-- "Instruction encoding"; `bpf_core_patch_insn`, tools/lib/bpf/relo_core.c).
use Rattle.std.specs.Prelude.{ℕ, ◌+◌, ◌*◌, ◌/◌, ◌%◌, ◌^◌, ◌==◌, ◌||◌, nat_lt, Option, None, Some, ℤ, pos, if◌then◌else◌}
use Rattle.std.specs.Int.{w32, cast_signed}
use Rattle.std.specs.Option.{option_map_or}
use Rattle.ebpf_items.specs.Instruction.{src_reg_of}
use Rattle.ebpf_items.specs.declared.instruction.bpf_insn.{bpf_insn}
use Rattle.slot_relocation.specs.declared.outcome.Outcome.{Outcome}
use Rattle.slot_relocation.specs.declared.outcome.Outcome.TheVariants.{Refused, Written}
use Rattle.core_patch.specs.declared.instruction.WriteError.{WriteError}
use Rattle.core_patch.specs.declared.instruction.WriteError.TheVariants.{LargeOffset, NoNextPoison, NoNextSlot, OtherClass, OtherWidth, SourceRegister}
use Rattle.core_patch.specs.declared.patch.Patch.{Patch}
use Rattle.core_patch.specs.declared.patch.Patch.TheVariants.{Poison, Value}
use Rattle.core_patch.specs.declared.patch.Width.{Width}
use Rattle.core_patch.specs.declared.patch.Width.TheVariants.{Changed, Kept, Unknown}

-- The low and the high word of a value, as signed numbers.
abbrev pub low_word : ℕ → ℤ
low_word value = cast_signed w32 (value % 2 ^ 32)

abbrev pub high_word : ℕ → ℤ
high_word value = cast_signed w32 (value / 2 ^ 32)

-- The outcomes that write one slot, or a slot and the next one.
abbrev pub first_alone : bpf_insn → Outcome WriteError
first_alone slot = Written (record { first = slot; next = None })

abbrev pub both : bpf_insn → bpf_insn → Outcome WriteError
both slot next = Written (record { first = slot; next = Some next })

-- The effect on an arithmetic instruction. Its immediate is set to the low word.
abbrev pub of_arithmetic : bpf_insn → ℕ → Outcome WriteError
of_arithmetic slot value =
    if src_reg_of slot == 0
    then first_alone (record slot { imm = low_word value })
    else Refused SourceRegister

-- The bits of an operation code for a width in bytes: BPF_B, BPF_H, BPF_W, BPF_DW.
abbrev pub width_bits : ℕ → Option ℕ
width_bits size =
    if size == 1 then Some 0x10
    else if size == 2 then Some 0x08
    else if size == 4 then Some 0x00
    else if size == 8 then Some 0x18
    else None

-- The operation code with its bits 3 and 4 replaced.
abbrev pub with_width_bits : ℕ → ℕ → ℕ
with_width_bits code bits = code / 32 * 32 + bits + code % 8

-- The effect of a width on a load or a store.
abbrev pub with_width : bpf_insn → Width → Outcome WriteError
with_width slot Kept = first_alone slot
with_width slot (Changed size) =
    option_map_or (λ bits. first_alone (record slot { code = with_width_bits slot.code bits }))
    (width_bits size) (Refused OtherWidth)
with_width slot Unknown = Refused OtherWidth

-- The effect on a load or a store. Its offset of 16 signed bits is set to the value.
abbrev pub of_memory : bpf_insn → ℕ → Width → Outcome WriteError
of_memory slot value width =
    if nat_lt 32767 value
    then Refused LargeOffset
    else with_width (record slot { off = pos value }) width

-- The effect on a load of 64 bits. Its own immediate is set to the low word, and that of the next
-- slot to the high word.
abbrev pub of_wide_load : bpf_insn → Option bpf_insn → ℕ → Outcome WriteError
of_wide_load slot next value =
    option_map_or (λ n.
    both (record slot { imm = low_word value }) (record n { imm = high_word value })) next
    (Refused NoNextSlot)

-- The effect of a value by class: BPF_LD 0, BPF_LDX 1, BPF_ST 2, BPF_STX 3, BPF_ALU 4, BPF_ALU64 7.
abbrev pub of_value : bpf_insn → Option bpf_insn → ℕ → Width → Outcome WriteError
of_value slot next value width =
    if slot.code % 8 == 4 || slot.code % 8 == 7 then of_arithmetic slot value
    else if slot.code % 8 == 0 then of_wide_load slot next value
    else if nat_lt (slot.code % 8) 4 then of_memory slot value width
    else Refused OtherClass

-- A call of helper 195896080 (0xbad2310), which no kernel has. The verifier refuses the program if
-- the call can be reached.
abbrev pub poison : bpf_insn
poison = record { code = 0x85; registers = 0; off = pos 0; imm = pos 0xbad2310 }

-- The effect of poison. In a load of 64 bits (BPF_LD | BPF_IMM | BPF_DW) both slots are poisoned.
abbrev pub of_poison : bpf_insn → Option bpf_insn → Outcome WriteError
of_poison slot next =
    if slot.code == 0x18 then option_map_or (λ n. both poison poison) next (Refused NoNextPoison)
    else first_alone poison

-- The effect of a type relocation on a slot and the next one.
abbrev pub patched : bpf_insn → Option bpf_insn → Patch → Outcome WriteError
patched slot next (Value value width) = of_value slot next value width
patched slot next Poison = of_poison slot next

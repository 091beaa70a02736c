-- Instruction slots, by the section "Instruction encoding" of the kernel's instruction-set.rst.
use Rattle.std.specs.Prelude.{ℕ, ℤ, zero, suc, ◌+◌, ◌*◌, ◌/◌, ◌%◌, ◌==◌, ◌&&◌, ◌||◌, Bool, List, [], ◌∷◌, ◌++◌, length, slice_index, take, drop, pos, Option, Some, None, is_some, unwrap_or, if◌then◌else◌}
use Rattle.std.specs.Int.{w16, w32, cast_signed, cast_unsigned, from_le_bytes, to_le_bytes}
use Rattle.std.specs.Ordering.{int_eq}
use Rattle.ebpf_items.specs.declared.instruction.bpf_insn.{bpf_insn}

-- The destination register is the low half of its byte, the source register the high half.
abbrev pub dst_reg_of : bpf_insn → ℕ
dst_reg_of slot = slot.registers % 16

abbrev pub src_reg_of : bpf_insn → ℕ
src_reg_of slot = slot.registers / 16

-- The slot with another destination register. Only the low four bits of the number count.
abbrev pub with_dst_reg : bpf_insn → ℕ → bpf_insn
with_dst_reg slot reg = record slot { registers = src_reg_of slot * 16 + reg % 16 }

abbrev pub with_src_reg : bpf_insn → ℕ → bpf_insn
with_src_reg slot reg = record slot { registers = reg % 16 * 16 + dst_reg_of slot }

-- The slot that eight bytes encode: code, registers, offset, immediate.
abbrev pub slot_of : List ℕ → bpf_insn
slot_of bytes = record {
  code = slice_index bytes 0;
  registers = slice_index bytes 1;
  off = cast_signed w16 (from_le_bytes w16 (take 2 (drop 2 bytes)));
  imm = cast_signed w32 (from_le_bytes w32 (drop 4 bytes));
}

abbrev pub bytes_of : bpf_insn → List ℕ
bytes_of slot =
    slot.code ∷ slot.registers ∷ to_le_bytes w16 (cast_unsigned w16 slot.off)
    ++ to_le_bytes w32 (cast_unsigned w32 slot.imm)

-- Whether the slot is a call of a function of the program (BPF_PSEUDO_CALL).
abbrev pub is_pseudo_call : bpf_insn → Bool
is_pseudo_call slot =
    slot.code == 0x85 && src_reg_of slot == 1 && dst_reg_of slot == 0 && int_eq slot.off (pos 0)

-- The first slots of some bytes, as many as asked for, of eight bytes each.
abbrev pub slots_in : List ℕ → ℕ → List bpf_insn
slots_in bytes zero = []
slots_in bytes (suc count) = slot_of (take 8 bytes) ∷ slots_in (drop 8 bytes) count

-- All slots of some bytes. A remainder of less than eight bytes is ignored.
abbrev pub slots_of : List ℕ → List bpf_insn
slots_of bytes = slots_in bytes (length bytes / 8)

-- The helper of older kernels that replaces a newer helper: bpf_probe_read replaces
-- bpf_probe_read_user and bpf_probe_read_kernel, and bpf_probe_read_str replaces
-- bpf_probe_read_user_str and bpf_probe_read_kernel_str.
abbrev pub older_helper : ℤ → Option ℤ
older_helper helper =
    if int_eq helper (pos 112) || int_eq helper (pos 113) then Some (pos 4)
    else if int_eq helper (pos 114) || int_eq helper (pos 115) then Some (pos 45)
    else None

-- Whether the slot is a call of a helper.
abbrev pub is_helper_call : bpf_insn → Bool
is_helper_call slot = slot.code == 0x85 && src_reg_of slot == 0 && dst_reg_of slot == 0

-- Whether the slot calls a helper for which an older helper exists.
abbrev pub calls_newer_helper : bpf_insn → Bool
calls_newer_helper slot = is_helper_call slot && is_some (older_helper slot.imm)

-- The slot with its newer helper replaced by the older one. Other slots are unchanged.
abbrev pub with_older_helper : bpf_insn → bpf_insn
with_older_helper slot =
    if is_helper_call slot
    then record slot { imm = unwrap_or (older_helper slot.imm) slot.imm }
    else slot

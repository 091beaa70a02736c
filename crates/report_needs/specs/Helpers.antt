-- The helpers that a program calls.
use Rattle.std.specs.Prelude.{ℤ, ◌==◌, ◌&&◌, Bool, List, Contains, filter, map}
use Rattle.std.specs.List.Sorted.{IsStrictlySortedBy}
use Rattle.std.specs.Ordering.{int_cmp}
use Rattle.ebpf_items.specs.Instruction.{src_reg_of}
use Rattle.ebpf_items.specs.declared.instruction.bpf_insn.{bpf_insn}

-- Whether a slot calls a helper by its number (BPF_JMP | BPF_CALL with source register 0).
abbrev pub calls_helper : bpf_insn → Bool
calls_helper slot = (slot.code == 0x85) && (src_reg_of slot == 0)

-- The number in each call.
abbrev pub numbers_called : List bpf_insn → List ℤ
numbers_called slots = map (λ slot. slot.imm) (filter calls_helper slots)

-- The numbers in the calls, each once, strictly increasing.
pub record AreHelpers (slots : List bpf_insn) (helpers : List ℤ) : Type 0 where
  pub rising : IsStrictlySortedBy int_cmp helpers
  pub each : (n : ℤ) → Contains (numbers_called slots) n → Contains helpers n
  pub none_else : (n : ℤ) → Contains helpers n → Contains (numbers_called slots) n

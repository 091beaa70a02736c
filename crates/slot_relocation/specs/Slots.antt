-- Slots as relocations write them.
use Rattle.std.specs.Prelude.{ℕ, ℤ}
use Rattle.ebpf_items.specs.Instruction.{with_src_reg}
use Rattle.ebpf_items.specs.declared.instruction.bpf_insn.{bpf_insn}

-- A slot with a source register and an immediate.
abbrev pub with_number : bpf_insn → ℕ → ℤ → bpf_insn
with_number slot source number = record (with_src_reg slot source) { imm = number }

-- The laws of texts and instructions.
use Rattle.std.specs.Prelude.{◌≡◌, ℕ, ◌^◌, ◌<◌, List, Option, IfSome, FitsSigned}
use Rattle.std.specs.Int.{w16, w32}
use Rattle.ebpf_items.specs.declared.instruction.bpf_insn.{bpf_insn}
use Rattle.instruction_text.specs.declared.instruction.Instruction.{Instruction}
use Rattle.instruction_text.specs.Texts.{taken, text_of}

-- Each field is in its range.
pub record IsSlot (s : bpf_insn) : Type 0 where
  pub code : s.code < 2 ^ 8
  pub registers : s.registers < 2 ^ 8
  pub off : FitsSigned w16 s.off
  pub imm : FitsSigned w32 s.imm

-- An instruction with all of its slots and no more, and its text.
pub record IsTextOf (bytes : List ℕ) (i : Instruction) : Type 0 where
  pub text : text_of i.first i.second ≡ bytes
  pub whole : taken i.first i.second ≡ i

-- Different instructions have different texts.
pub record AreToldApart : Type 0 where
  pub each : (a c : bpf_insn) (b d : Option bpf_insn)
      → IsSlot a
      → IfSome b IsSlot
      → IsSlot c
      → IfSome d IsSlot
      → text_of a b ≡ text_of c d
      → taken a b ≡ taken c d

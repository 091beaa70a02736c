-- The instructions of a program's slots.
use Rattle.std.specs.Prelude.{Bool, ℕ, ◌+◌, List, [], ◌∷◌, Option, Some, None, is_some, if◌then◌else◌}
use Rattle.std.specs.String.{string_bytes}
use Rattle.ebpf_items.specs.declared.instruction.bpf_insn.{bpf_insn}
use Rattle.instruction_text.specs.declared.instruction.Instruction.{Instruction}
use Rattle.instruction_text.specs.Texts.{taken, text_of}
use Rattle.code_listing.specs.declared.column.CodeRow.{CodeRow}
use Rattle.code_listing.specs.declared.listed.ListedInstruction.{ListedInstruction}

-- An instruction with its text, and the index of its first slot.
pub record Shown : Type 0 where
  pub slot : ℕ
  pub instruction : Instruction
  pub text : List ℕ

abbrev pub shown : ListedInstruction → Shown
shown listed =
    record {
      slot = listed.slot;
      instruction = listed.instruction;
      text = string_bytes listed.text;
    }

-- The instruction in the slot at an index, given the slot after it.
abbrev pub shown_at : ℕ → bpf_insn → Option bpf_insn → Shown
shown_at index first second =
    record { slot = index; instruction = taken first second; text = text_of first second }

-- Whether the instruction in a slot takes the slot after it too.
abbrev pub is_wide : bpf_insn → bpf_insn → Bool
is_wide first second = is_some (taken first (Some second)).second

-- The instructions in some slots, the first of which has this index.
abbrev pub listing : ℕ → List bpf_insn → List Shown
listing index [] = []
listing index (first ∷ []) = shown_at index first None ∷ []
listing index (first ∷ second ∷ rest) =
    shown_at index first (Some second)
    ∷ (if is_wide first second then listing (index + 2) rest else listing (index + 1) (second ∷ rest))

-- The slots of an instruction.
abbrev pub second_slots : Option bpf_insn → List bpf_insn
second_slots None = []
second_slots (Some slot) = slot ∷ []

abbrev pub own_slots : Shown → List bpf_insn
own_slots s = s.instruction.first ∷ second_slots s.instruction.second

-- The slots after the first instruction of some slots, given its second slot.
abbrev pub slots_after : Option bpf_insn → List bpf_insn → List bpf_insn
slots_after second [] = []
slots_after None (first ∷ rest) = rest
slots_after (Some _) (first ∷ []) = []
slots_after (Some _) (first ∷ slot ∷ rest) = rest

-- What a listing prints of an instruction but its note: the index of its first slot, and its text.
pub record Line : Type 0 where
  pub slot : ℕ
  pub text : List ℕ

abbrev pub line_of : Shown → Line
line_of s = record { slot = s.slot; text = s.text }

abbrev pub line_in : CodeRow → Line
line_in row = record { slot = row.slot; text = string_bytes row.text }

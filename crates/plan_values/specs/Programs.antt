-- A linked program, and what is known of its maps and functions.
use Rattle.std.specs.Prelude.{ℕ, ◌==◌, ◌&&◌, Bool, nat_lt, if◌then◌else◌, List, [], ◌∷◌, length, slice_get, unwrap_or, Option, Some, None, ℤ, pos, negsuc, ◌+ℤ◌}
use Rattle.ebpf_items.specs.declared.instruction.bpf_insn.{bpf_insn}
use Rattle.ebpf_items.specs.Instruction.{src_reg_of}
use Rattle.plan_values.specs.declared.program.FrozenMap.{FrozenMap}
use Rattle.plan_values.specs.declared.program.Verifier.{Verifier}

pub record Code : Type 0 where
  pub slots : List bpf_insn
  pub verifier : Verifier
  pub maps : List (ℕ × List ℕ)
  pub globals : List ℕ
  pub functions : List ℕ

-- Whether a slot loads the address of a function that a helper calls. The source register
-- BPF_PSEUDO_FUNC marks it.
abbrev pub is_callback : bpf_insn → Bool
is_callback s = s.code == 0x18 && src_reg_of s == 4

-- The slot that the immediate of a call, or of the load of a function's address, names.
abbrev pub target : bpf_insn → ℕ → ℤ
target s position = (pos position +ℤ pos 1) +ℤ s.imm

-- The index of a slot, if a program of `len` slots has it.
abbrev pub index_in : ℕ → ℤ → Option ℕ
index_in len (pos slot) = if nat_lt slot len then Some slot else None
index_in len (negsuc n) = None

abbrev pub or_first : ℕ → ℕ → ℕ
or_first len slot = if nat_lt slot len then slot else 0

-- The slot at which the function begins that has a slot.
abbrev pub function_of : Code → ℕ → ℕ
function_of code slot = or_first (length code.slots) (unwrap_or (slice_get code.functions slot) 0)

-- A frozen map: its number and its bytes.
abbrev pub numbered : FrozenMap → ℕ × List ℕ
numbered map = (map.number, map.bytes.now)

-- The bytes of the first map of a number; none if no map has it.
abbrev pub bytes_in : List (ℕ × List ℕ) → ℕ → List ℕ
bytes_in [] number = []
bytes_in (map ∷ maps) number = if map.0 == number then map.1 else bytes_in maps number

-- Every run of the machine stays in slots that are reached, and loads from the context as is said.
-- Programs of two kinds aren't covered. An indirect jump `gotox` (code 0x0d) leads the machine to the
-- next slot, or by its offset, and nowhere else. A program of the kind freplace, an extension, begins
-- with its target's arguments, and not with the context's address in register 1.
use Rattle.std.specs.Prelude.{◌≡◌, ◌<◌, ℕ, true, List, [], ◌∷◌, length, drop, take, ℤ, pos, negsuc}
use Rattle.ebpf_items.specs.Instruction.{src_reg_of}
use Rattle.plan_registers.specs.Machine.{State, Steps, ContextAddress, Entered, all_plain_words, word_at}
use Rattle.plan_values.specs.Programs.{Code}
use Rattle.plan_registers.specs.Reach.{IsReached, LoadsContext}

-- A run: each state is one to which a step from the state before leads.
abbrev pub IsRun : Code → State → List State → Type 0
IsRun code a [] = Unit {0}
IsRun code a (b ∷ states) = Steps code a b × IsRun code b states

-- The slot is reached, if the program has it.
abbrev pub IsReachedAt : Code → ℤ → Type 0
IsReachedAt code (pos n) = n < length code.slots → IsReached code n
IsReachedAt code (negsuc n) = Unit {0}

-- Where the slot loads from the context, its source register is the address that is said.
abbrev pub LoadsAsSaid : Code → State → Type 0
LoadsAsSaid code a =
    (n offset : ℕ)
    → a.slot ≡ pos n
    → (load : LoadsContext code n offset)
    → word_at a.registers (src_reg_of load.s) ≡ ContextAddress offset

abbrev pub AllReached : Code → List State → Type 0
AllReached code [] = Unit {0}
AllReached code (a ∷ states) =
    IsReachedAt code a.slot × LoadsAsSaid code a × AllReached code states

-- Every run from the first slot, at the start of a function with the context's address in register 1 and
-- without addresses of other frames, and with no function that waits, stays in slots that are reached,
-- and loads as is said.
pub record VisitsReached : Type 0 where
  pub each : (code : Code) (first : State) (states : List State)
      → first.slot ≡ pos 0
      → Entered first.registers
      → word_at first.registers 1 ≡ ContextAddress 0
      → all_plain_words (take 4 (drop 2 first.registers)) ≡ true
      → first.waiting ≡ []
      → IsRun code first states
      → AllReached code (first ∷ states)

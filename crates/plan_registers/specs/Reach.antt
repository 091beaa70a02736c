-- The slots of a program that a run can reach.
use Rattle.std.specs.Prelude.{◌≡◌, ◌<◌, ◌↔◌, ℕ, ◌+◌, ◌%◌, ◌==◌, Bool, if◌then◌else◌, List, [], ◌∷◌, ◌++◌, length, Option, Some, None, IsSome, IsTrue, slice_get, unwrap_or, false, ℤ, pos, negsuc}
use Rattle.ebpf_items.specs.declared.instruction.bpf_insn.{bpf_insn}
use Rattle.ebpf_items.specs.Instruction.{src_reg_of}
use Rattle.plan_values.specs.declared.value.Value.{Value}
use Rattle.plan_values.specs.declared.value.Value.TheVariants as value
use Rattle.plan_registers.specs.Flow.{Way, result_at, to_slot, ways_of}
use Rattle.plan_values.specs.Knowledge.{Known, any_entry, at_start, value_in, IsWithin}
use Rattle.plan_values.specs.Programs.{Code, index_in, target}

abbrev pub flat_option : {A : Type 0} → Option (Option A) → Option A
flat_option None = None
flat_option (Some o) = o

-- For each slot what is known of the registers there, or that the slot isn't reached. Behind these, for
-- each slot what is known where the function returns that begins there, or that none of its ends is
-- reached.
abbrev pub Facts : Type 0
Facts = List (Option Known)

-- A slot is reached, and what is known there is known along the path. A position outside the facts has
-- no condition.
abbrev pub IsMet : Option (Option Known) → Known → Type 0
IsMet None known = Unit {0}
IsMet (Some None) known = ⊥
IsMet (Some (Some there)) known = IsWithin there known

abbrev pub fact_at : Facts → ℤ → Option (Option Known)
fact_at facts (pos n) = slice_get facts n
fact_at facts (negsuc n) = None

abbrev pub AllMet : Facts → List Way → Type 0
AllMet facts [] = Unit {0}
AllMet facts (way ∷ ways) = IsMet (fact_at facts way.to) way.known × AllMet facts ways

-- What is known where the function returns that has a slot.
abbrev pub result_in : Code → Facts → Option ℕ → Option Known
result_in code facts None = None
result_in code facts (Some slot) = flat_option (slice_get facts (result_at code slot))

-- The same of the function that a slot calls.
abbrev pub callee_result : Code → Facts → bpf_insn → ℕ → Option Known
callee_result code facts s position =
    result_in code facts (index_in (length code.slots) (target s position))

abbrev pub ways_from : Code → ℕ → Option bpf_insn → Option (Option Known) → Facts → List Way
ways_from code slot None fact facts = []
ways_from code slot (Some s) None facts = []
ways_from code slot (Some s) (Some None) facts = []
ways_from code slot (Some s) (Some (Some known)) facts =
    ways_of code s (slice_get code.slots (slot + 1)) slot known (callee_result code facts s slot)

-- The paths from a slot, if it is reached.
abbrev pub ways_at : Code → Facts → ℕ → List Way
ways_at code facts slot =
    ways_from code slot (slice_get code.slots slot) (slice_get facts slot) facts

-- The paths to slots at which functions begin that are verified by themselves, with unknown arguments.
abbrev pub roots_at : Code → List ℕ → List Way
roots_at code [] = []
roots_at code (slot ∷ slots) = to_slot code (pos slot) any_entry ++ roots_at code slots

-- The paths to the global functions, where the verifier doesn't wait for a call of one.
abbrev pub global_roots : Code → List Way
global_roots code = if code.verifier.called_globals then [] else roots_at code code.globals

-- The first slot is reached with the context's address in register 1, global functions are reached
-- that needn't be called, and each path from a reached slot is met.
pub record IsClosed (code : Code) (facts : Facts) : Type 0 where
  pub size : length facts ≡ length code.slots + length code.slots
  pub start : IsMet (slice_get facts 0) at_start
  pub roots : AllMet facts (global_roots code)
  pub ways : (slot : ℕ) → AllMet facts (ways_at code facts slot)

-- The second facts reach each slot and each result that the first ones reach, and know at most the same
-- there.
pub record IsBelow (facts other : Facts) : Type 0 where
  pub each : (slot : ℕ) (known : Known)
      → slice_get facts slot ≡ Some (Some known)
      → (there : Known) × (slice_get other slot ≡ Some (Some there)) × IsWithin there known

-- The least closed facts.
pub record IsLeast (code : Code) (facts : Facts) : Type 0 where
  pub closed : IsClosed code facts
  pub least : (other : Facts) → IsClosed code other → IsBelow facts other

-- The slot is one of the program, and all closed facts reach it.
pub record IsReached (code : Code) (slot : ℕ) : Type 0 where
  pub inside : slot < length code.slots
  pub each : (facts : Facts) → IsClosed code facts → IsSome (flat_option (slice_get facts slot))

abbrev pub context_offset : Value → Option ℕ
context_offset (value.Context offset) = Some offset
context_offset _ = None

-- For an instruction of the class LDX the offset in the context of its source register.
abbrev pub source_offset : bpf_insn → Known → Option ℕ
source_offset s known =
    if s.code % 8 == 1 then context_offset (value_in known (src_reg_of s)) else None

abbrev pub offset_at : bpf_insn → Option Known → Option ℕ
offset_at s None = None
offset_at s (Some known) = source_offset s known

-- The same of each slot.
abbrev pub offsets_in : List bpf_insn → Facts → List (Option ℕ)
offsets_in [] facts = []
offsets_in (s ∷ ss) [] = []
offsets_in (s ∷ ss) (fact ∷ facts) = offset_at s fact ∷ offsets_in ss facts

-- The slot is reached, and loads by a register that is the context's address plus an offset: some
-- closed facts know it.
pub record LoadsContext (code : Code) (slot offset : ℕ) : Type 0 where
  pub reached : IsReached code slot
  pub s : bpf_insn
  pub here : slice_get code.slots slot ≡ Some s
  pub facts : Facts
  pub closed : IsClosed code facts
  pub known : offset_at s (flat_option (slice_get facts slot)) ≡ Some offset

-- For each slot whether a run can reach it, and for a load from the context the offset of its source
-- register.
pub record Reached : Type 0 where
  pub slots : List Bool
  pub offsets : List (Option ℕ)

-- For each slot of a program whether a run can reach it, and how it loads from the context.
pub record AreReached (code : Code) (reached : Reached) : Type 0 where
  pub size : length reached.slots ≡ length code.slots
  pub each : (slot : ℕ)
      → IsTrue (unwrap_or (slice_get reached.slots slot) false) ↔ IsReached code slot
  pub loads : (slot offset : ℕ)
      → (flat_option (slice_get reached.offsets slot) ≡ Some offset) ↔ LoadsContext code slot offset

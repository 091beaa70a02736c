-- The work list by which the least facts are found: those of the facts whose paths are still to be
-- followed.
use Rattle.std.specs.Prelude.{◌≡◌, ◌≤◌, ◌<◌, ◌⊎◌, ℕ, ◌+◌, ◌-◌, ◌*◌, true, nat_lt, if◌then◌else◌, List, [], ◌∷◌, length, Option, Some, None, slice_get, slice_set, replicate, zero, suc, ◌++◌, sum_by, Vec}
use Rattle.std.specs.declared.alloc.Global.{Global}
use Rattle.ebpf_items.specs.declared.instruction.bpf_insn.{bpf_insn}
use Rattle.ebpf_items.specs.Instruction.{is_pseudo_call}
use Rattle.plan_registers.specs.declared.work.Work.{Work}
use Rattle.plan_registers.specs.Flow.{Way, result_at}
use Rattle.plan_values.specs.Knowledge.{Known, at_start}
use Rattle.plan_values.specs.Programs.{Code, function_of, index_in, target}
use Rattle.plan_registers.specs.Reach.{Facts, IsMet, AllMet, global_roots, ways_at, IsClosed, IsBelow}
use Rattle.plan_values.specs.Values.{weight}

pub record State : Type 0 where
  pub facts : Facts
  pub pending : List ℕ

abbrev pub state_of : Work → State
state_of work = record { facts = work.facts.items; pending = work.pending.items }

-- One of the facts is reached with what is known there and put on the list.
abbrev pub raised : State → ℕ → Known → State
raised state slot known =
    record {
      facts = slice_set state.facts slot (Some known);
      pending = state.pending ++ slot ∷ [];
    }

abbrev pub no_facts : ℕ → Facts
no_facts len = replicate len None

-- The state of `len` slots in which the first slot is reached at the start of a program.
abbrev pub first_state : ℕ → State
first_state zero = record { facts = []; pending = [] }
first_state (suc n) = raised (record { facts = no_facts (suc n + suc n); pending = [] }) 0 at_start

abbrev pub Has : List ℕ → ℕ → Type 0
Has [] slot = ⊥
Has (s ∷ ss) slot = (s ≡ slot) ⊎ Has ss slot

-- How much is known.
abbrev pub count : Known → ℕ
count known = sum_by weight known

abbrev pub rank : Option Known → ℕ
rank None = 65
rank (Some known) = count known

-- A bound for the remaining steps: each step weakens the facts or takes a slot off the list.
abbrev pub effort : State → ℕ
effort state = 2 * sum_by rank state.facts + length state.pending

-- The facts are weakened until they meet some paths, and no further.
pub record Joins (old new : State) (ways : List Way) : Type 0 where
  pub size : length new.facts ≡ length old.facts
  pub weaker : IsBelow old.facts new.facts
  pub met : AllMet new.facts ways
  pub least : (other : Facts)
      → length other ≡ length old.facts
      → AllMet other ways
      → IsBelow old.facts other
      → IsBelow new.facts other
  pub listed : (slot : ℕ)
      → (slice_get new.facts slot ≡ slice_get old.facts slot) ⊎ Has new.pending slot
  pub kept : (slot : ℕ) → Has old.pending slot → Has new.pending slot
  pub falls : effort new ≤ effort old

-- The facts on which the paths from a slot rest: those on the slot, and at a call those on the result.
abbrev pub result_source : Code → Option ℕ → List ℕ
result_source code None = []
result_source code (Some slot) = result_at code slot ∷ []

abbrev pub call_sources : Code → ℕ → Option bpf_insn → List ℕ
call_sources code slot None = []
call_sources code slot (Some s) =
    if is_pseudo_call s then result_source code (index_in (length code.slots) (target s slot)) else []

abbrev pub sources : Code → ℕ → List ℕ
sources code slot = slot ∷ call_sources code slot (slice_get code.slots slot)

-- One of some indexes is on a list.
abbrev pub HasOne : List ℕ → List ℕ → Type 0
HasOne list [] = ⊥
HasOne list (n ∷ ns) = Has list n ⊎ HasOne list ns

-- The facts are below all closed facts, and each slot whose paths aren't met is one of `rest`, or rests
-- on facts that are on the list.
pub record IsUnderway (code : Code) (state : State) (rest : List ℕ) : Type 0 where
  pub size : length state.facts ≡ length code.slots + length code.slots
  pub start : IsMet (slice_get state.facts 0) at_start
  pub roots : AllMet state.facts (global_roots code)
  pub ways : (slot : ℕ)
      → AllMet state.facts (ways_at code state.facts slot)
      ⊎ (Has rest slot ⊎ HasOne state.pending (sources code slot))
  pub least : (other : Facts) → IsClosed code other → IsBelow state.facts other

abbrev pub listed_in : Option (Vec ℕ Global) → List ℕ
listed_in None = []
listed_in (Some list) = list.items

-- The numbers in the list of an index.
abbrev pub listed_at : List (Vec ℕ Global) → ℕ → List ℕ
listed_at lists index = listed_in (slice_get lists index)

-- The slots whose paths rest on one of the facts.
abbrev pub resting : Code → List (Vec ℕ Global) → ℕ → List ℕ
resting code lists index =
    if nat_lt index (length code.slots) then index ∷ []
    else listed_at lists (index - length code.slots)

-- A number is put into the list of an index, and none is lost.
pub record IsListed (old new : List (Vec ℕ Global)) (index n : ℕ) : Type 0 where
  pub size : length new ≡ length old
  pub kept : (i m : ℕ) → Has (listed_at old i) m → Has (listed_at new i) m
  pub listed : Has (listed_at new index) n

-- The list of the function that a slot calls has the slot.
abbrev pub HasCall : Code → List (Vec ℕ Global) → ℕ → Option ℕ → Type 0
HasCall code lists slot None = Unit {0}
HasCall code lists slot (Some callee) = Has (listed_at lists (function_of code callee)) slot

abbrev pub IsCallListed : Code → List (Vec ℕ Global) → ℕ → Option bpf_insn → Type 0
IsCallListed code lists slot None = Unit {0}
IsCallListed code lists slot (Some s) =
    is_pseudo_call s ≡ true → HasCall code lists slot (index_in (length code.slots) (target s slot))

-- For each slot the calls of the function that begins there, as far as they stand before a slot.
pub record AreCalls (code : Code) (lists : List (Vec ℕ Global)) (end : ℕ) : Type 0 where
  pub size : length lists ≡ length code.slots
  pub each : (slot : ℕ) → slot < end → IsCallListed code lists slot (slice_get code.slots slot)

-- The same lists, with the call at a slot.
pub record AddsCall (code : Code) (old new : List (Vec ℕ Global)) (slot : ℕ) : Type 0 where
  pub size : length new ≡ length old
  pub kept : (i m : ℕ) → Has (listed_at old i) m → Has (listed_at new i) m
  pub call : IsCallListed code new slot (slice_get code.slots slot)

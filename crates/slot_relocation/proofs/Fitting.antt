-- The slots that a relocation writes exist.
use Rattle.std.proofs.Common.{arith, ◌≡◌, ℕ, suc, zero, ◌+◌, ◌<◌, List, [], ◌∷◌, Option, Some, None, sym, length}
use Rattle.std.specs.Prelude.{slice_get, IfSome, IsSome}
use Rattle.ebpf_items.specs.declared.instruction.bpf_insn.{bpf_insn}
use Rattle.slot_relocation.specs.declared.outcome.Fault.{Fault}
use Rattle.slot_relocation.specs.declared.outcome.Outcome.{Outcome}
use Rattle.slot_relocation.specs.declared.outcome.Outcome.TheVariants.{Skipped, Written, Refused}
use Rattle.slot_relocation.specs.Walks.{FitsIn, NextFits}

is_there : (xs : List bpf_insn) (i : ℕ) (x : bpf_insn) → slice_get xs i ≡ Some x → i < length xs
is_there [] i x h = absurd (cc)
is_there (y ∷ xs) zero x h = omega arith
is_there (y ∷ xs) (suc i) x h = let k = is_there xs i x h in let l : suc i < suc (length xs) = omega (arith, k) in l

some_there : (xs : List bpf_insn) (i : ℕ) (next : Option bpf_insn) → next ≡ slice_get xs i → IsSome next → i < length xs
some_there xs i None e h = absurd (cc)
some_there xs i (Some s) e h = is_there xs i s (sym e)

next_fits : (xs : List bpf_insn) (i : ℕ) (next written : Option bpf_insn) → next ≡ slice_get xs i → IfSome written (λ s. IsSome next) → IfSome written (λ s. i < length xs)
next_fits xs i next None e h = tt
next_fits xs i next (Some w) e h = some_there xs i next e h

pub fits : (slots : List bpf_insn) (place : ℕ) (slot : bpf_insn) (next : Option bpf_insn) (o : Outcome Fault) → slice_get slots place ≡ Some slot → next ≡ slice_get slots (place + 1) → NextFits next o → FitsIn slots place o
fits slots place slot next Skipped at after h = tt
fits slots place slot next (Written w) at after h = (is_there slots place slot at, next_fits slots (place + 1) next w.next after h)
fits slots place slot next (Refused cause) at after h = tt

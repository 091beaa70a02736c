-- A walk over one more slot.
use Rattle.std.proofs.Common.{◌≡◌, ℕ, zero, suc, ◌+◌, List, [], ◌∷◌, drop, length, None, Some, ap, ◌∙◌, ◌<◌, arith, slice_get, sym}
use Rattle.ebpf_items.specs.declared.instruction.bpf_insn.{bpf_insn}
use Rattle.linker.specs.Unlinked.{Unlinked}
use Rattle.plan_copies.specs.Copies.{Walk, copies_from, visited}
use Rattle.plan_copies.specs.declared.copies.FunctionCopy.{FunctionCopy}

pub left_some : {X : Type 0} (xs : List X) (i : ℕ) (x : X) → slice_get xs i ≡ Some x → drop i xs ≡ x ∷ drop (i + 1) xs
left_some [] i x e = absurd cc
left_some (y ∷ ys) zero x e = cc
left_some {X} (y ∷ ys) (suc i) x e =
    let same : suc i + 1 ≡ suc (i + 1) = omega arith in
    rw same (left_some ys i x e)

pub inside : {X : Type 0} (xs : List X) (i : ℕ) → i < length xs → slice_get xs i ≡ None → ⊥
inside [] i lt e = omega (arith, lt)
inside (y ∷ ys) zero lt e = cc
inside (y ∷ ys) (suc i) lt e =
    let less : i < length ys = omega (arith, lt) in
    inside ys i less e

pub one_more : (u : Unlinked) (w : Walk) (slot : ℕ) (s : bpf_insn) (slots : List bpf_insn) (all : List FunctionCopy) → copies_from u w slot (drop slot slots) ≡ all → slice_get slots slot ≡ Some s → copies_from u (visited u w slot s) (slot + 1) (drop (slot + 1) slots) ≡ all
one_more u w slot s slots all is there =
    let left : drop slot slots ≡ s ∷ drop (slot + 1) slots = left_some slots slot s there in
    let same : copies_from u w slot (drop slot slots) ≡ copies_from u w slot (s ∷ drop (slot + 1) slots) = ap (λ (l : List bpf_insn). copies_from u w slot l) left in
    sym same ∙ is

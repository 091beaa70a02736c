-- The effect of a write on the slots.
use Rattle.std.proofs.Common.{arith, ◌≡◌, ℕ, suc, zero, ◌+◌, ◌⊎◌, inl, inr, true, List, [], ◌∷◌, Option, Some, None, refl, sym, ap, ◌∙◌, subst, ◌<◌, length, slice_set}
use Rattle.std.specs.Prelude.{slice_get, fold, is_some}
use Rattle.std.proofs.lemmas.List.{length-set}
use Rattle.ebpf_items.specs.declared.instruction.bpf_insn.{bpf_insn}
use Rattle.object_parts.specs.Content.{FunctionContent}
use Rattle.slot_relocation.specs.declared.outcome.Outcome.{Outcome}
use Rattle.slot_relocation.specs.declared.outcome.Outcome.TheVariants.{Skipped, Written, Refused}
use Rattle.slot_relocation.specs.declared.outcome.Write.{Write}
use Rattle.slot_relocation.specs.Writes.{RuleOf, after, after_one, outcome_at, index_of_slot, written}
use Rattle.slot_relocation.specs.WriteLaws.{Puts, Reaches}

set_here : (xs : List bpf_insn) (i : ℕ) (x y : bpf_insn) → slice_get xs i ≡ Some x → slice_get (slice_set xs i y) i ≡ Some y
set_here [] i x y h = absurd (cc)
set_here (z ∷ xs) zero x y h = refl
set_here (z ∷ xs) (suc i) x y h = set_here xs i x y h

set_apart : (xs : List bpf_insn) (i j : ℕ) (y : bpf_insn) → (i ≡ j → ⊥) → slice_get (slice_set xs i y) j ≡ slice_get xs j
set_apart [] i j y never = refl
set_apart (z ∷ xs) zero zero y never = absurd (never refl)
set_apart (z ∷ xs) zero (suc j) y never = refl
set_apart (z ∷ xs) (suc i) zero y never = refl
set_apart (z ∷ xs) (suc i) (suc j) y never = set_apart xs i j y (λ e. never (ap suc e))

next_apart : (n : ℕ) → n + 1 ≡ n → ⊥
next_apart n e = omega arith

-- The slot at the index of the write is its first slot.
written_next : (slots : List bpf_insn) (place : ℕ) (first old : bpf_insn) (next : Option bpf_insn) → slice_get slots place ≡ Some old → slice_get (written slots place (record { first = first; next = next })) place ≡ Some first
written_next slots place first old None h = set_here slots place old first h
written_next slots place first old (Some next) h =
    set_apart (slice_set slots place first) (place + 1) place next (next_apart place) ∙ set_here slots place old first h

pub written_here : (slots : List bpf_insn) (place : ℕ) (w : Write) (old : bpf_insn) → slice_get slots place ≡ Some old → slice_get (written slots place w) place ≡ Some w.first
written_here slots place w old h = written_next slots place w.first old w.next h

-- A slot at another index is unchanged.
stays_next : (slots : List bpf_insn) (place i : ℕ) (first : bpf_insn) (next : Option bpf_insn) → ((place ≡ i) ⊎ ((is_some next ≡ true) × (place + 1 ≡ i)) → ⊥) → slice_get (written slots place (record { first = first; next = next })) i ≡ slice_get slots i
stays_next slots place i first None never = set_apart slots place i first (λ e. never (inl e))
stays_next slots place i first (Some next) never =
    set_apart (slice_set slots place first) (place + 1) i next (λ e. never (inr (refl, e))) ∙ set_apart slots place i first (λ e. never (inl e))

stays_after : {E : Type 0} (slots : List bpf_insn) (place i : ℕ) (o : Outcome E) → ((w : Write) → o ≡ Written w → Reaches place w i → ⊥) → slice_get (after slots place o) i ≡ slice_get slots i
stays_after slots place i Skipped never = refl
stays_after slots place i (Written w) never = stays_next slots place i w.first w.next (never w refl)
stays_after slots place i (Refused cause) never = refl

pub stays_at : {A E : Type 0} (rule : RuleOf A E) (f : FunctionContent) (slots : List bpf_insn) (r : ℕ × A) (i : ℕ) → ((w : Write) → outcome_at rule f slots r ≡ Written w → Reaches (index_of_slot f r.0) w i → ⊥) → slice_get (after_one rule f slots r) i ≡ slice_get slots i
stays_at rule f slots r i never = stays_after slots (index_of_slot f r.0) i (outcome_at rule f slots r) never

-- The number of slots is unchanged.
long_next : (slots : List bpf_insn) (place : ℕ) (first : bpf_insn) (next : Option bpf_insn) → length (written slots place (record { first = first; next = next })) ≡ length slots
long_next slots place first None = length-set slots place first
long_next slots place first (Some next) = length-set (slice_set slots place first) (place + 1) next ∙ length-set slots place first

long_after : {E : Type 0} (slots : List bpf_insn) (place : ℕ) (o : Outcome E) → length (after slots place o) ≡ length slots
long_after slots place Skipped = refl
long_after slots place (Written w) = long_next slots place w.first w.next
long_after slots place (Refused cause) = refl

pub long_all : {A E : Type 0} (rule : RuleOf A E) (f : FunctionContent) (slots : List bpf_insn) (rs : List (ℕ × A)) → length (fold (after_one rule f) slots rs) ≡ length slots
long_all rule f slots [] = refl
long_all rule f slots (r ∷ rs) = long_all rule f (after_one rule f slots r) rs ∙ long_after slots (index_of_slot f r.0) (outcome_at rule f slots r)

-- An index within a list has the element that is set there.
set_in : (xs : List bpf_insn) (i : ℕ) (y : bpf_insn) → i < length xs → slice_get (slice_set xs i y) i ≡ Some y
set_in [] i y h = absurd (omega (arith, h))
set_in (z ∷ xs) zero y h = refl
set_in (z ∷ xs) (suc i) y h = let k : suc i < suc (length xs) = h in set_in xs i y (omega (arith, k))

put_first : (slots : List bpf_insn) (place : ℕ) (first : bpf_insn) (next : Option bpf_insn) → place < length slots → slice_get (written slots place (record { first = first; next = next })) place ≡ Some first
put_first slots place first None h = set_in slots place first h
put_first slots place first (Some next) h =
    set_apart (slice_set slots place first) (place + 1) place next (next_apart place) ∙ set_in slots place first h

put_next : (slots : List bpf_insn) (place : ℕ) (first s : bpf_insn) (next : Option bpf_insn) → next ≡ Some s → place + 1 < length slots → slice_get (written slots place (record { first = first; next = next })) (place + 1) ≡ Some s
put_next slots place first s None is h = absurd (cc)
put_next slots place first s (Some next) is h =
    let long : place + 1 < length (slice_set slots place first) = let e = length-set slots place first in omega (arith, e, h) in
    set_in (slice_set slots place first) (place + 1) next long ∙ is

pub put_here : (slots : List bpf_insn) (at : ℕ) (w : Write) (place : ℕ) (s : bpf_insn) → Puts at w place s → place < length slots → slice_get (written slots at w) place ≡ Some s
put_here slots at w place s (inl first) h =
    ap (slice_get (written slots at w)) (sym first.0) ∙ put_first slots at w.first w.next (subst (λ p. p < length slots) (sym first.0) h) ∙ ap Some first.1
put_here slots at w place s (inr next) h =
    ap (slice_get (written slots at w)) (sym next.0) ∙ put_next slots at w.first s w.next next.1 (subst (λ p. p < length slots) (sym next.0) h)

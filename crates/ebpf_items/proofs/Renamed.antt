-- Replacing newer helpers by older ones is idempotent and acts on each slot separately.
use Rattle.std.proofs.Common.{◌≡◌, ℕ, ◌+◌, ◌<◌, zero, suc, Bool, true, false, List, [], ◌∷◌, ◌++◌, length, map, take, drop, get_or, refl, sym, ap, ap₂, arith, add-one, unwrap_or, pos, ℤ}
use Rattle.std.specs.Prelude.{◌||◌}
use Rattle.std.specs.Ordering.{int_eq}
use Rattle.std.proofs.Math.ListN.{set}
use Rattle.ebpf_items.specs.declared.instruction.bpf_insn.{bpf_insn}
use Rattle.ebpf_items.specs.declared.slot_list.FileSlots.{FileSlots}
use Rattle.ebpf_items.specs.Slots.{renamed_where, file_slots}
use Rattle.ebpf_items.specs.Instruction.{slots_of, is_helper_call, older_helper, with_older_helper}

by_tests : (a b : Bool) (helper : ℤ) → (int_eq helper (pos 112) || int_eq helper (pos 113)) ≡ a → (int_eq helper (pos 114) || int_eq helper (pos 115)) ≡ b → unwrap_or (older_helper (unwrap_or (older_helper helper) helper)) (unwrap_or (older_helper helper) helper) ≡ unwrap_or (older_helper helper) helper
by_tests true b helper p q = rw p refl
by_tests false true helper p q = rw (p, q) refl
by_tests false false helper p q = simp (p, q)

by_call : (b : Bool) (slot : bpf_insn) → is_helper_call slot ≡ b → with_older_helper (with_older_helper slot) ≡ with_older_helper slot
by_call true slot h = simp h (ap (λ (n : ℤ). record slot { imm = n }) (by_tests (int_eq slot.imm (pos 112) || int_eq slot.imm (pos 113)) (int_eq slot.imm (pos 114) || int_eq slot.imm (pos 115)) slot.imm refl refl))
by_call false slot h = simp h

pub with_older_helper-again : (slot : bpf_insn) → with_older_helper (with_older_helper slot) ≡ with_older_helper slot
with_older_helper-again slot = by_call (is_helper_call slot) slot refl

pub map-again : (slots : List bpf_insn) → map with_older_helper (map with_older_helper slots) ≡ map with_older_helper slots
map-again [] = refl
map-again (slot ∷ slots) = ap₂ (λ x xs. x ∷ xs) (with_older_helper-again slot) (map-again slots)

map-renamed_where : (b : Bool) (slots : List bpf_insn) → map with_older_helper (renamed_where b slots) ≡ map with_older_helper slots
map-renamed_where true slots = map-again slots
map-renamed_where false slots = refl

-- Marking the slots of a file as renamed replaces the helpers in the slots that are read.
pub file_slots-marked : (f : FileSlots) → file_slots (record f { is_renamed = true }) ≡ map with_older_helper (file_slots f)
file_slots-marked f = sym (map-renamed_where f.is_renamed (slots_of f.bytes.now))

-- ---- A loop that changes each element of a list in place

module _ {X : Type 0} (f : X → X) (d : X) where
  set-mapped_suc : (xs : List X) (i : ℕ) → i < length xs → set (map f (take i xs) ++ drop i xs) i (f (get_or xs i d)) ≡ map f (take (suc i) xs) ++ drop (suc i) xs
  set-mapped_suc [] i h = absurd (omega arith)
  set-mapped_suc (x ∷ xs) zero h = refl
  set-mapped_suc (x ∷ xs) (suc i) h = ap (λ ys. f x ∷ ys) (set-mapped_suc xs i (omega arith))

  set-mapped : (xs : List X) (i : ℕ) → i < length xs → set (map f (take i xs) ++ drop i xs) i (f (get_or xs i d)) ≡ map f (take (i + 1) xs) ++ drop (i + 1) xs
  set-mapped xs i h = rw add-one (set-mapped_suc xs i h)

  get_or-mapped : (xs : List X) (i : ℕ) → i < length xs → get_or (map f (take i xs) ++ drop i xs) i d ≡ get_or xs i d
  get_or-mapped [] i h = absurd (omega arith)
  get_or-mapped (x ∷ xs) zero h = refl
  get_or-mapped (x ∷ xs) (suc i) h = get_or-mapped xs i (omega arith)

  -- One step of the loop: the list ys has its first i elements changed, and the step changes
  -- element i.
  pub map_step : (xs ys : List X) (i : ℕ) → i < length xs → ys ≡ map f (take i xs) ++ drop i xs → set ys i (f (get_or ys i d)) ≡ map f (take (i + 1) xs) ++ drop (i + 1) xs
  map_step xs ys i h e = rw (e, get_or-mapped xs i h) (set-mapped xs i h)

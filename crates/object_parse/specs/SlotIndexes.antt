-- Records by their slots.
use Rattle.std.specs.Prelude.{ℕ, suc, List, [], ◌∷◌, filter, map}
use Rattle.std.specs.List.Sorted.{IsNonDecreasingBy, IsPermutation}
use Rattle.object_parse.specs.Kept.{is_within}
use Rattle.object_parse.specs.declared.slot_index.IndexedSlot.{IndexedSlot}

-- Slots with their indexes, counted from a first index.
abbrev pub numbered : ℕ → List ℕ → List IndexedSlot
numbered at [] = []
numbered at (slot ∷ slots) = record { slot = slot; index = at } ∷ numbered (suc at) slots

-- Slots with their indexes, ordered by slot.
pub record AreBySlot (slots : List ℕ) (places : List IndexedSlot) : Type 0 where
  pub same : IsPermutation (numbered 0 slots) places
  pub ordered : IsNonDecreasingBy (λ p. p.slot) places

-- The indexes of the slots of a stretch, increasing.
abbrev pub indexes_within : ℕ → ℕ → List ℕ → List ℕ
indexes_within from count slots =
    map (λ p. p.index) (filter (λ p. is_within from count p.slot) (numbered 0 slots))

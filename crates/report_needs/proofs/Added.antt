-- The numbers of an enum, added to a set variant by variant.
use Rattle.std.proofs.Common.{◌≡◌, ℕ, ◌+◌, Bool, true, false, List, ◌∷◌, drop, Some, refl, find, slice_get}
use Rattle.std.specs.Prelude.{◌||◌, is_some}
use Rattle.std.specs.BTreeSet.{BTreeSet, contains}
use Rattle.std.specs.Ordering.{nat_cmp}
use Rattle.report_needs.proofs.Variants.{left_at}

-- The set, extended by the numbers of the remaining variants, is the old set extended by those of
-- all variants.
pub record AreAdded {X : Type 0} (passes : ℕ → X → Bool) (variants left : List X) (old new : BTreeSet ℕ) : Type 0 where
  pub each : (number : ℕ) → (contains nat_cmp new number || is_some (find (passes number) left)) ≡ (contains nat_cmp old number || is_some (find (passes number) variants))

moved : {X : Type 0} (passes : X → Bool) (x : X) (rest : List X) (before after all : Bool) → after ≡ (before || passes x) → (before || is_some (find passes (x ∷ rest))) ≡ all → (after || is_some (find passes rest)) ≡ all
moved passes x rest before after all now is = by before (passes x) refl now is where
  by : (before test : Bool) → passes x ≡ test → after ≡ (before || passes x) → (before || is_some (find passes (x ∷ rest))) ≡ all → (after || is_some (find passes rest)) ≡ all
  by true test t now is = rw now is
  by false true t now is = rw (now, t) (rw t at is)
  by false false t now is = rw (now, t) (rw t at is)

pub one_added : {X : Type 0} (passes : ℕ → X → Bool) (variants : List X) (i : ℕ) (x : X) (old before after : BTreeSet ℕ) → Some x ≡ slice_get variants i → AreAdded passes variants (drop i variants) old before → ((number : ℕ) → contains nat_cmp after number ≡ (contains nat_cmp before number || passes number x)) → AreAdded passes variants (drop (i + 1) variants) old after
one_added passes variants i x old before after is so_far now =
    record { each = λ number. moved (passes number) x (drop (i + 1) variants) (contains nat_cmp before number) (contains nat_cmp after number) _ (now number) (rw (left_at variants i x is) at so_far.each number) }

-- The rest of a list from an index on.
use Rattle.std.proofs.Common.{◌≡◌, ℕ, zero, suc, ◌+◌, ◌≤◌, List, [], ◌∷◌, drop, length, None, Some, refl, arith, slice_get}

pub left_some : {X : Type 0} (xs : List X) (i : ℕ) (x : X) → slice_get xs i ≡ Some x → drop i xs ≡ x ∷ drop (i + 1) xs
left_some [] i x e = absurd cc
left_some (y ∷ ys) zero x e = cc
left_some {X} (y ∷ ys) (suc i) x e =
    let same : suc i + 1 ≡ suc (i + 1) = omega arith in
    rw same (left_some ys i x e)

pub left_none : {X : Type 0} (xs : List X) (i : ℕ) → slice_get xs i ≡ None → drop i xs ≡ []
left_none [] zero e = refl
left_none [] (suc i) e = refl
left_none (y ∷ ys) zero e = absurd cc
left_none (y ∷ ys) (suc i) e = left_none ys i e

pub past_length : {X : Type 0} (xs : List X) (i : ℕ) → slice_get xs i ≡ None → length xs ≤ i
past_length [] i e = omega arith
past_length (x ∷ xs) zero e = absurd cc
past_length (x ∷ xs) (suc i) e = omega (arith, past_length xs i e)

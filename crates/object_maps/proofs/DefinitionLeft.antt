-- The elements of a list from an index on.
use Rattle.std.proofs.Common.{◌≡◌, ℕ, zero, suc, ◌+◌, List, [], ◌∷◌, drop, Some, arith, slice_get}

pub left_some : {X : Type 0} (xs : List X) (i : ℕ) (x : X) → slice_get xs i ≡ Some x → drop i xs ≡ x ∷ drop (i + 1) xs
left_some [] i x e = absurd cc
left_some (y ∷ ys) zero x e = cc
left_some {X} (y ∷ ys) (suc i) x e =
    let same : suc i + 1 ≡ suc (i + 1) = omega arith in
    rw same (left_some ys i x e)

-- The last item that passes a test, searched by index.
use Rattle.std.proofs.Common.{◌≡◌, ℕ, zero, suc, ◌+◌, ◌<◌, ◌≤◌, Bool, true, false, List, [], ◌∷◌, drop, length, Option, None, Some, arith, filter, slice_get}
use Rattle.std.specs.List.{last_or}

pub left_at : {X : Type 0} (xs : List X) (i : ℕ) (x : X) → Some x ≡ slice_get xs i → drop i xs ≡ x ∷ drop (i + 1) xs
left_at [] zero x is = absurd cc
left_at [] (suc i) x is = absurd cc
left_at (y ∷ ys) zero x is = cc
left_at (y ∷ ys) (suc i) x is =
    let same : suc i + 1 ≡ suc (i + 1) = omega arith in
    rw same (left_at ys i x is)

pub none_missing : {X : Type 0} (xs : List X) (i : ℕ) → i < length xs → slice_get xs i ≡ None → ⊥
none_missing [] zero lt none = omega (arith, lt)
none_missing [] (suc i) lt none = omega (arith, lt)
none_missing (x ∷ xs) zero lt none = absurd cc
none_missing (x ∷ xs) (suc i) lt none = none_missing xs i (omega (arith, lt)) none

pub none_left : {X : Type 0} (p : X → Bool) (xs : List X) (i : ℕ) (found all : Option X) → length xs ≤ i → last_or found (filter p (drop i xs)) ≡ all → found ≡ all
none_left p [] zero found all le is = is
none_left p [] (suc i) found all le is = is
none_left p (x ∷ xs) zero found all le is = absurd (omega (arith, le))
none_left p (x ∷ xs) (suc i) found all le is = none_left p xs i found all (omega (arith, le)) is

pub passed : {X : Type 0} (p : X → Bool) (xs : List X) (i : ℕ) (x : X) (found all : Option X) → last_or found (filter p (drop i xs)) ≡ all → Some x ≡ slice_get xs i → p x ≡ true → last_or (Some x) (filter p (drop (i + 1) xs)) ≡ all
passed p xs i x found all left is passes = rw (left_at xs i x is, passes) at left

pub not_passed : {X : Type 0} (p : X → Bool) (xs : List X) (i : ℕ) (x : X) (found all : Option X) → last_or found (filter p (drop i xs)) ≡ all → Some x ≡ slice_get xs i → p x ≡ false → last_or found (filter p (drop (i + 1) xs)) ≡ all
not_passed p xs i x found all left is passes = rw (left_at xs i x is, passes) at left

-- The first number of a range, and the rest of the range.
use Rattle.std.proofs.Common.{◌≡◌, ℕ, zero, suc, ◌+◌, ◌-◌, ◌<◌, ◌∷◌, Bool, false, refl, arith}
use native.Mathlib.Numerals.{unary_clauses}
use Rattle.std.specs.Prelude.{filter, find, map}
use Rattle.std.specs.List.{range_with_len}

pub range_first : (a n : ℕ) → 0 < n → range_with_len a n ≡ a ∷ range_with_len (a + 1) (n - 1)
range_first a zero positive = absurd (omega arith)
range_first a (suc n) positive = simp unary_clauses refl

pub find-range_first : (test : ℕ → Bool) (a n m : ℕ) → 0 < n → m ≡ n - 1 → test a ≡ false → find test (range_with_len a n) ≡ find test (range_with_len (a + 1) m)
find-range_first test a n m positive less failed = rw (range_first a n positive, failed, less) refl

pub filter-range_first : {X : Type 0} (test : X → Bool) (f : ℕ → X) (a n : ℕ) → 0 < n → test (f a) ≡ false → filter test (map f (range_with_len (a + 1) (n - 1))) ≡ filter test (map f (range_with_len a n))
filter-range_first test f a n positive failed = rw (range_first a n positive, failed) refl

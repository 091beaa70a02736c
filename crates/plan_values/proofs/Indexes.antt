-- The index of a slot that may be outside the program.
use Rattle.std.proofs.Common.{◌≡◌, ℕ, Bool, true, cond, Some, None, refl, sym, ap, arith, ℤ, pos, negsuc, ◌≤ℤ◌, ◌<ℤ◌}
use Rattle.std.proofs.lemmas.Int.{ints}
use Rattle.plan_values.specs.Programs.{index_in}

if_true : (v : Bool) (n : ℕ) → v ≡ true → Some n ≡ cond v (Some n) None
if_true v n e = ap (λ (b : Bool). cond b (Some n) None) (sym e)

pub index_low : (len : ℕ) (z : ℤ) → z <ℤ pos 0 → None ≡ index_in len z
index_low len (pos n) h = absurd (omega (arith, ints))
index_low len (negsuc n) h = refl

pub index_high : (len : ℕ) (z : ℤ) → pos len ≤ℤ z → None ≡ index_in len z
index_high len (pos n) h = grind (arith, ints)
index_high len (negsuc n) h = refl

pub index_inside : (len n : ℕ) (z : ℤ) → pos n ≡ z → z <ℤ pos len → Some n ≡ index_in len z
index_inside len n (pos m) e h = grind (arith, ints)
index_inside len n (negsuc m) e h = absurd (omega (arith, ints))

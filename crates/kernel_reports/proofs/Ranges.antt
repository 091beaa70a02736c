-- The numbers from one on.
use Rattle.std.proofs.Common.{◌≡◌, ℕ, suc, ◌+◌, ◌-◌, ◌<◌, ◌∷◌, arith, ap}
use Rattle.std.specs.List.{range_with_len}

pub left_from : (i n : ℕ) → i < n → range_with_len i (n - i) ≡ i ∷ range_with_len (i + 1) (n - (i + 1))
left_from i n lt =
    let e : n - i ≡ suc (n - (i + 1)) = omega (arith, lt) in
    ap (range_with_len i) e

-- The units that are tried for a bit field, in order.
use Rattle.std.proofs.Common.{◌≡◌, ℕ, suc, ◌+◌, ◌-◌, ◌*◌, ◌<◌, ◌≤◌, None, Some, refl, arith, true, false, nat_lt}
use Rattle.std.proofs.lemmas.Bool.Decides.{nat_tests}
use Rattle.core_spec.specs.Extents.{fits_unit, unit_from}

one_fewer : (n i : ℕ) → i < n → n - i ≡ suc (n - (i + 1))
one_fewer n i lt = omega arith

pub no_rounds : (at bits unit n : ℕ) → n ≡ 0 → unit_from n at bits unit ≡ None
unfolding unit_from
no_rounds at bits unit n e = rw e refl

pub fitting_unit : (at bits unit n i : ℕ) → i < n → fits_unit at bits unit ≡ true → unit_from (n - i) at bits unit ≡ Some unit
unfolding unit_from
fitting_unit at bits unit n i lt fits = rw (one_fewer n i lt, fits) refl

pub large_unit : (at bits unit n i : ℕ) → i < n → fits_unit at bits unit ≡ false → 8 ≤ unit → unit_from (n - i) at bits unit ≡ None
unfolding unit_from
large_unit at bits unit n i lt fits large =
    let test : nat_lt unit 8 ≡ false = grind (arith, nat_tests) in
    rw (one_fewer n i lt, fits, test) refl

pub next_unit : (at bits unit n i : ℕ) → i < n → fits_unit at bits unit ≡ false → unit < 8 → unit_from (n - i) at bits unit ≡ unit_from (n - (i + 1)) at bits (2 * unit)
unfolding unit_from
next_unit at bits unit n i lt fits small =
    let test : nat_lt unit 8 ≡ true = grind (arith, nat_tests) in
    rw (one_fewer n i lt, fits, test) refl

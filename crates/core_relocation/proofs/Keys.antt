-- Equal keys of functions.
use Rattle.std.proofs.Common.{arith, ◌≡◌, ℕ, true, refl, ap, ◌∙◌}
use Rattle.std.specs.BTreeMap.{is_at}
use Rattle.std.proofs.lemmas.Bool.Decides.{nat_tests}
use Rattle.std.specs.Ordering.{is_eq, nat_cmp, ordering_then}
use Rattle.std.specs.declared.cmp.Ordering.{Ordering}
use Rattle.std.specs.declared.cmp.Ordering.TheVariants.{Less, Equal, Greater}
use Rattle.object_parts.specs.Content.{key_cmp}

same_numbers : (a b : ℕ) → is_eq (nat_cmp a b) ≡ true → a ≡ b
same_numbers a b h = grind (arith, nat_tests)

both_equal : (x y : Ordering) → is_eq (ordering_then x y) ≡ true → (is_eq x ≡ true) × (is_eq y ≡ true)
both_equal Equal y h = (refl, h)
both_equal Less y h = absurd (cc)
both_equal Greater y h = absurd (cc)

pub same_keys : (a b : ℕ × ℕ) → is_at (key_cmp a) b ≡ true → a ≡ b
same_keys (a, c) (b, d) h =
    let both = both_equal (nat_cmp a b) (nat_cmp c d) h in
    ap (λ n. (n, c)) (same_numbers a b both.0) ∙ ap (λ n. (b, n)) (same_numbers c d both.1)

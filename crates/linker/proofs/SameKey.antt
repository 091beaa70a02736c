-- Equality of keys.
use Rattle.std.proofs.Common.{◌≡◌, ℕ, true, ap, ◌∙◌, arith}
use Rattle.std.proofs.lemmas.Bool.Decides.{nat_tests}
use Rattle.linker.specs.Layout.{Key, same}

pub same_self : (a : Key) → same a a ≡ true
same_self a = grind (arith, nat_tests)

pub same_parts : (a b : Key) → same a b ≡ true → (a.0 ≡ b.0) × (a.1 ≡ b.1)
same_parts a b h = (grind (arith, nat_tests), grind (arith, nat_tests))

pub same_true : (a b : Key) → same a b ≡ true → a ≡ b
same_true (a, b) (c, d) h =
    let p = same_parts (a, b) (c, d) h in
    let f : ℕ → ℕ → Key = λ x y. (x, y) in
    ap (λ x. f x b) p.0 ∙ ap (λ y. f c y) p.1

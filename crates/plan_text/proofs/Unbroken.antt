-- Lines without line feeds.
use Rattle.std.proofs.Common.{◌≡◌, ℕ, true, List, [], ◌∷◌, ◌++◌, length, refl, ap, ◌∙◌, arith}
use Rattle.std.specs.Prelude.{◌==◌}
use Rattle.std.proofs.lemmas.Bool.Decides.{nat_tests}
use Rattle.plan_lines.specs.WordReading.{IsUnbroken}

pub empty_is : (xs : List ℕ) → (length xs == 0) ≡ true → xs ≡ []
empty_is [] h = refl
empty_is (x ∷ xs) h = let e : length (x ∷ xs) ≡ 0 = grind (arith, nat_tests) in absurd (omega (arith, e))

-- The first line of a text is unique.
pub one_line : (l m s t : List ℕ) → IsUnbroken l → IsUnbroken m → l ++ 10 ∷ s ≡ m ++ 10 ∷ t → (l ≡ m) × (s ≡ t)
one_line [] [] s t u v e = (refl, cc)
one_line [] (x ∷ m) s t u v e = let k : x ≡ 10 = cc in absurd (v.0 k)
one_line (x ∷ l) [] s t u v e = let k : x ≡ 10 = cc in absurd (u.0 k)
one_line (x ∷ l) (y ∷ m) s t u v e =
    let h : x ≡ y = cc in
    let r = one_line l m s t u.1 v.1 (cc) in
    (ap (λ z. z ∷ l) h ∙ ap (λ z. y ∷ z) r.0, r.1)

-- A line with its line feed isn't free of line feeds.
pub not_unbroken : (l t : List ℕ) → IsUnbroken (l ++ 10 ∷ t) → ⊥
not_unbroken [] t u = u.0 refl
not_unbroken (x ∷ l) t u = not_unbroken l t u.1

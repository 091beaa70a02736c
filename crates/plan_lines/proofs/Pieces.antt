-- Words and the line that has them.
use Rattle.std.proofs.Common.{◌≡◌, ◌≢◌, ℕ, ◌<◌, List, [], ◌∷◌, ◌++◌, refl, ap, sym, ◌∙◌, subst, arith, append-nil, inl, inr}
use Rattle.std.specs.Prelude.{◌==◌}
use Rattle.plan_lines.proofs.Cut.{bool_cases, some_piece}
use Rattle.plan_lines.proofs.WordTexts.{IsPlain, eq_is, not_space}
use Rattle.plan_lines.specs.WordReading.{IsUnbroken, onto_first, pieces_of}
use Rattle.plan_lines.specs.Words.{joined, words_onto}

abbrev pub ArePlain : List (List ℕ) → Type 0
ArePlain [] = Unit {0}
ArePlain (w ∷ ws) = IsPlain w × ArePlain ws

pieces_plain : (w t : List ℕ) → IsPlain w → pieces_of (w ++ 32 ∷ t) ≡ w ∷ pieces_of t
pieces_plain [] t p = refl
pieces_plain (x ∷ w) t p = rw (not_space x p.0) (ap (onto_first x) (pieces_plain w t p.1))

pieces_last : (w : List ℕ) → IsPlain w → pieces_of w ≡ w ∷ []
pieces_last [] p = refl
pieces_last (x ∷ w) p = rw (not_space x p.0) (ap (onto_first x) (pieces_last w p.1))

-- The words of a line are read from the line.
pub pieces_joined : (w : List ℕ) (ws : List (List ℕ)) → IsPlain w → ArePlain ws → pieces_of (joined (w ∷ ws)) ≡ w ∷ ws
pieces_joined w [] p q = ap pieces_of (append-nil w) ∙ pieces_last w p
pieces_joined w (v ∷ ws) p q = pieces_plain w (joined (v ∷ ws)) p ∙ ap (λ x. w ∷ x) (pieces_joined v ws q.0 q.1)

joined_onto : (x : ℕ) (p : List ℕ) (ps : List (List ℕ)) → joined (onto_first x (p ∷ ps)) ≡ x ∷ joined (p ∷ ps)
joined_onto x p ps = refl

-- A line is its pieces, joined.
pub joined_pieces : (t : List ℕ) → joined (pieces_of t) ≡ t
joined_pieces [] = refl
joined_pieces (x ∷ xs) = elim (bool_cases (x == 32)) [
  | inl e ↦
      let k = some_piece xs in
      rw e (ap (λ ps. joined ([] ∷ ps)) k.2 ∙ (ap (λ y. 32 ∷ y) (ap joined (sym k.2) ∙ joined_pieces xs) ∙ ap (λ y. y ∷ xs) (sym (eq_is x 32 e))))
  | inr e ↦
      let k = some_piece xs in
      rw e (ap (λ ps. joined (onto_first x ps)) k.2 ∙ (joined_onto x k.0 k.1 ∙ ap (λ y. x ∷ y) (ap joined (sym k.2) ∙ joined_pieces xs)))
]

ten_space : ◌≢◌ {A = ℕ} 32 10
ten_space e = absurd (omega arith)

not_ten : (x : ℕ) → 32 < x → x ≢ 10
not_ten x h e = let k : 32 < 10 = subst (λ y. 32 < y) e h in absurd (omega arith)

unbroken_then : (w t : List ℕ) → IsPlain w → IsUnbroken t → IsUnbroken (w ++ t)
unbroken_then [] t p u = u
unbroken_then (x ∷ w) t p u = (not_ten x p.0, unbroken_then w t p.1 u)

unbroken_words : (ws : List (List ℕ)) → ArePlain ws → IsUnbroken (words_onto ws [])
unbroken_words [] p = tt
unbroken_words (w ∷ ws) p = (ten_space, unbroken_then w (words_onto ws []) p.0 (unbroken_words ws p.1))

pub unbroken_joined : (ws : List (List ℕ)) → ArePlain ws → IsUnbroken (joined ws)
unbroken_joined [] p = tt
unbroken_joined (w ∷ ws) p = unbroken_then w (words_onto ws []) p.0 (unbroken_words ws p.1)

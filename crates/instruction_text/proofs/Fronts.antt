-- The prefix of a text, and the text after it.
use Rattle.std.proofs.Common.{◌≡◌, ℕ, Bool, true, false, cond, List, [], ◌∷◌, ◌++◌, length, take, drop, Option, Some, None, refl, ap, sym, ◌∙◌, arith}
use Rattle.std.specs.Prelude.{◌==◌, ◌&&◌, bytes_eq, option_and_then}
use Rattle.std.proofs.lemmas.Bool.Decides.{nat_tests}
use Rattle.instruction_text.specs.declared.parts.Parts.{Parts}
use Rattle.instruction_text.specs.declared.piece.Piece.{Piece}
use Rattle.instruction_text.specs.Reading.{after_front, after_pieces, is_done}
use Rattle.instruction_text.specs.Texts.{rendered, shown}

pub after_both : (xs ys text : List ℕ) → after_front (xs ++ ys) text ≡ option_and_then (after_front ys) (after_front xs text)
after_both [] ys text = refl
after_both (x ∷ xs) ys [] = refl
after_both (x ∷ xs) ys (c ∷ cs) = by_test (x == c) (after_both xs ys cs)
  where
    by_test : (b : Bool) → after_front (xs ++ ys) cs ≡ option_and_then (after_front ys) (after_front xs cs) → cond b (after_front (xs ++ ys) cs) None ≡ option_and_then (after_front ys) (cond b (after_front xs cs) None)
    by_test true e = e
    by_test false e = refl

pub done_is : (xs text : List ℕ) → is_done (after_front xs text) ≡ bytes_eq xs text
done_is [] [] = refl
done_is [] (c ∷ cs) = refl
done_is (x ∷ xs) [] = refl
done_is (x ∷ xs) (c ∷ cs) = by_test (x == c) (done_is xs cs)
  where
    by_test : (b : Bool) → is_done (after_front xs cs) ≡ bytes_eq xs cs → is_done (cond b (after_front xs cs) None) ≡ (b && bytes_eq xs cs)
    by_test true e = e
    by_test false e = refl

pub pieces_are : (pieces : List Piece) (p : Parts) (text : List ℕ) → after_pieces pieces p text ≡ after_front (rendered pieces p) text
pieces_are [] p text = refl
pieces_are (piece ∷ pieces) p text =
    by_rest (after_front (shown piece p) text) (λ rest. pieces_are pieces p rest) ∙ sym (after_both (shown piece p) (rendered pieces p) text)
  where
    by_rest : (o : Option (List ℕ)) → ((rest : List ℕ) → after_pieces pieces p rest ≡ after_front (rendered pieces p) rest) → option_and_then (after_pieces pieces p) o ≡ option_and_then (after_front (rendered pieces p)) o
    by_rest None ih = refl
    by_rest (Some rest) ih = ih rest

-- Comparisons.

same_test : (m n : ℕ) → (m == n) ≡ (n == m)
same_test m n = by_test (m == n) (n == m) refl refl
  where
    by_test : (a b : Bool) → (m == n) ≡ a → (n == m) ≡ b → a ≡ b
    by_test true true e f = refl
    by_test false false e f = refl
    by_test true false e f = grind (arith, nat_tests)
    by_test false true e f = grind (arith, nat_tests)

pub stripped : (front text : List ℕ) → bytes_eq (take (length front) text) front ≡ true → after_front front text ≡ Some (drop (length front) text)
stripped [] text h = refl
stripped (x ∷ xs) [] h = cc
stripped (x ∷ xs) (c ∷ cs) h =
    by_test (x == c) (ap (λ b. b && bytes_eq (take (length xs) cs) xs) (same_test x c) ∙ h) (stripped xs cs)
  where
    by_test : (b : Bool) → (b && bytes_eq (take (length xs) cs) xs) ≡ true → (bytes_eq (take (length xs) cs) xs ≡ true → after_front xs cs ≡ Some (drop (length xs) cs)) → cond b (after_front xs cs) None ≡ Some (drop (length xs) cs)
    by_test true h ih = ih h
    by_test false h ih = cc

pub not_stripped : (front text : List ℕ) → bytes_eq (take (length front) text) front ≡ false → after_front front text ≡ None
not_stripped [] text h = cc
not_stripped (x ∷ xs) [] h = refl
not_stripped (x ∷ xs) (c ∷ cs) h =
    by_test (x == c) (ap (λ b. b && bytes_eq (take (length xs) cs) xs) (same_test x c) ∙ h) (not_stripped xs cs)
  where
    by_test : (b : Bool) → (b && bytes_eq (take (length xs) cs) xs) ≡ false → (bytes_eq (take (length xs) cs) xs ≡ false → after_front xs cs ≡ None) → cond b (after_front xs cs) None ≡ None
    by_test true h ih = ih h
    by_test false h ih = refl

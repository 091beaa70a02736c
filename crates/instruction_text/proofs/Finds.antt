-- The search for a form.
use Rattle.std.proofs.Common.{◌≡◌, ℕ, Bool, true, false, cond, List, [], ◌∷◌, ◌++◌, Option, Some, None, refl, ap, ◌∙◌}
use Rattle.std.specs.Prelude.{find}
use Rattle.instruction_text.specs.declared.instruction.Instruction.{Instruction}
use Rattle.instruction_text.specs.Forms.{Form}
use Rattle.instruction_text.specs.Reading.{checked_option, or_else, read_form, read_in}

abbrev pub first_of_two : {A : Type 0} → Option A → Option A → Option A
first_of_two None other = other
first_of_two (Some x) other = Some x

pub find_both : {A : Type 0} (test : A → Bool) (xs ys : List A) → find test (xs ++ ys) ≡ first_of_two (find test xs) (find test ys)
find_both test [] ys = refl
find_both test (x ∷ xs) ys = by_test (test x) (find_both test xs ys)
  where
    by_test : (b : Bool) → find test (xs ++ ys) ≡ first_of_two (find test xs) (find test ys) → cond b (Some x) (find test (xs ++ ys)) ≡ first_of_two (cond b (Some x) (find test xs)) (find test ys)
    by_test true e = refl
    by_test false e = e

or_assoc : (a b c : Option Instruction) → or_else a (or_else b c) ≡ or_else (or_else a b) c
or_assoc None b c = refl
or_assoc (Some i) b c = refl

pub read_both : (fs gs : List Form) (text : List ℕ) → read_in (fs ++ gs) text ≡ or_else (read_in fs text) (read_in gs text)
read_both [] gs text = refl
read_both (f ∷ fs) gs text =
    ap (or_else (checked_option text (read_form f text))) (read_both fs gs text)
    ∙ or_assoc (checked_option text (read_form f text)) (read_in fs text) (read_in gs text)

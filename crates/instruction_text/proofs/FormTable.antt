-- The table of forms: each text is regular, and different forms have different shapes.
use Rattle.std.proofs.Common.{◌≡◌, ◌⊎◌, ℕ, ◌+◌, ◌*◌, ◌^◌, Bool, true, false, not, List, [], ◌∷◌, map, Some, refl, ap, sym, ◌∙◌, subst, arith, ℤ, pos, negsuc, cond, inl, inr}
use Rattle.std.specs.Prelude.{◌==◌, ◌&&◌, nat_lt, find}
use Rattle.std.proofs.lemmas.Bool.Decides.{nat_tests}
use Rattle.instruction_text.specs.declared.parts.Parts.{Parts}
use Rattle.instruction_text.specs.declared.piece.Piece.{Piece}
use Rattle.instruction_text.specs.declared.piece.Piece.TheVariants.{Mark, Number}
use Rattle.instruction_text.specs.Forms.{Form, forms, arithmetic_forms, other_arithmetic_forms, memory_forms, atomic_operation_forms, jump_forms, other_forms}
use Rattle.instruction_text.specs.Texts.{pieces_of, takes}
use Rattle.instruction_text.proofs.Shapes.{both, is_regular, shape_of}

-- Whether the first letter stands for itself and isn't a dot.
abbrev pub starts : List Piece → Bool
starts [] = false
starts (Mark c ∷ ps) = not (c == 46)
starts (Number field style ∷ ps) = false

abbrev pub is_small : ℤ → Bool
is_small (pos n) = nat_lt n (2 ^ 15)
is_small (negsuc n) = false

abbrev pub is_ranged : Form → Bool
is_ranged f = nat_lt f.code (2 ^ 8) && (is_small f.offset && is_small f.immediate)

abbrev pub is_good : Form → Bool
is_good f = is_regular false (pieces_of f) && (starts (pieces_of f) && is_ranged f)

abbrev pub all_good : List Form → Bool
all_good [] = true
all_good (f ∷ fs) = is_good f && all_good fs

-- A number that a shape determines.
abbrev pub key_from : ℕ → List ℕ → ℕ
key_from n [] = n
key_from n (c ∷ cs) = key_from (n * 256 + c) cs

abbrev pub key : Form → ℕ
key f = key_from 1 (shape_of false (pieces_of f))

abbrev pub lacks : ℕ → List ℕ → Bool
lacks k [] = true
lacks k (l ∷ ls) = not (k == l) && lacks k ls

abbrev pub are_distinct : List ℕ → Bool
are_distinct [] = true
are_distinct (k ∷ ks) = lacks k ks && are_distinct ks

pub forms_good : all_good forms ≡ true
unfolding arithmetic_forms other_arithmetic_forms memory_forms atomic_operation_forms jump_forms other_forms
forms_good = refl

pub forms_distinct : are_distinct (map key forms) ≡ true
unfolding arithmetic_forms other_arithmetic_forms memory_forms atomic_operation_forms jump_forms other_forms
forms_distinct = refl

-- A form of the table.

abbrev pub IsIn : Form → List Form → Type 0
IsIn f [] = ⊥
IsIn f (g ∷ gs) = (f ≡ g) ⊎ IsIn f gs

pub good_in : (f : Form) (fs : List Form) → all_good fs ≡ true → IsIn f fs → is_good f ≡ true
good_in f [] h m = absurd m
good_in f (g ∷ gs) h (inl e) = ap is_good e ∙ (both (is_good g) (all_good gs) h).0
good_in f (g ∷ gs) h (inr m) = good_in f gs (both (is_good g) (all_good gs) h).1 m

not_same : (k l : ℕ) → k ≡ l → not (k == l) ≡ true → ⊥
not_same k l e h = grind (arith, nat_tests)

lacking : (k : ℕ) (f : Form) (fs : List Form) → lacks k (map key fs) ≡ true → IsIn f fs → k ≡ key f → ⊥
lacking k f [] h m e = absurd m
lacking k f (g ∷ gs) h (inl s) e = not_same k (key g) (e ∙ ap key s) (both (not (k == key g)) (lacks k (map key gs)) h).0
lacking k f (g ∷ gs) h (inr m) e = lacking k f gs (both (not (k == key g)) (lacks k (map key gs)) h).1 m e

-- Forms with equal keys are equal.
pub one_form : (f g : Form) (fs : List Form) → are_distinct (map key fs) ≡ true → IsIn f fs → IsIn g fs → key f ≡ key g → f ≡ g
one_form f g [] h m n e = absurd m
one_form f g (x ∷ xs) h (inl s) (inl t) e = s ∙ sym t
one_form f g (x ∷ xs) h (inl s) (inr n) e =
    absurd (lacking (key x) g xs (both (lacks (key x) (map key xs)) (are_distinct (map key xs)) h).0 n (sym (ap key s) ∙ e))
one_form f g (x ∷ xs) h (inr m) (inl t) e =
    absurd (lacking (key x) f xs (both (lacks (key x) (map key xs)) (are_distinct (map key xs)) h).0 m (sym (ap key t) ∙ sym e))
one_form f g (x ∷ xs) h (inr m) (inr n) e =
    one_form f g xs (both (lacks (key x) (map key xs)) (are_distinct (map key xs)) h).1 m n e

-- The form that is found is in the list, and the fields have it.
pub found_in : (p : Parts) (f : Form) (fs : List Form) → find (takes p) fs ≡ Some f → IsIn f fs × (takes p f ≡ true)
found_in p f [] h = cc
found_in p f (g ∷ gs) h = by_test (takes p g) refl h (found_in p f gs)
  where
    by_test : (b : Bool) → takes p g ≡ b → cond b (Some g) (find (takes p) gs) ≡ Some f → (find (takes p) gs ≡ Some f → IsIn f gs × (takes p f ≡ true)) → ((f ≡ g) ⊎ IsIn f gs) × (takes p f ≡ true)
    by_test true t h more =
        let e : g ≡ f = cc (h) in (inl (sym e), subst (λ x. takes p x ≡ true) e t)
    by_test false t h more = let r = more h in (inr r.0, r.1)

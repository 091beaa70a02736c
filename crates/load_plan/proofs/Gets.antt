-- Lists that are read by index, one element after the other, and tested.
use Rattle.std.proofs.Common.{◌≡◌, ℕ, zero, suc, ◌+◌, List, [], ◌∷◌, drop, Some, None, Bool, true, false, refl, sym, ap, ◌∙◌, arith}
use Rattle.std.specs.Prelude.{slice_get, ◌||◌}
use Rattle.std.specs.List.{list_any}

drop_suc : {A : Type 0} (xs : List A) (i : ℕ) (x : A) → slice_get xs i ≡ Some x → drop i xs ≡ x ∷ drop (suc i) xs
drop_suc [] i x h = absurd (cc)
drop_suc (y ∷ ys) zero x h = let e : y ≡ x = cc in ap (λ z. z ∷ ys) e
drop_suc (y ∷ ys) (suc i) x h = drop_suc ys i x h

drop_more : {A : Type 0} (xs : List A) (i : ℕ) (x : A) → slice_get xs i ≡ Some x → drop i xs ≡ x ∷ drop (i + 1) xs
drop_more xs i x h = let n : suc i ≡ i + 1 = omega arith in drop_suc xs i x h ∙ ap (λ m. x ∷ drop m xs) n

drop_all : {A : Type 0} (xs : List A) (i : ℕ) → slice_get xs i ≡ None → drop i xs ≡ []
drop_all [] zero h = refl
drop_all [] (suc i) h = refl
drop_all (y ∷ ys) zero h = absurd (cc)
drop_all (y ∷ ys) (suc i) h = drop_all ys i h

pub any_here : {A : Type 0} (p : A → Bool) (xs : List A) (i : ℕ) (x : A) (b : Bool) → Some x ≡ slice_get xs i → p x ≡ true → list_any p (drop i xs) ≡ b → b ≡ true
any_here p xs i x b h e inv = sym (sym (ap (λ v. v || list_any p (drop (i + 1) xs)) e) ∙ ap (list_any p) (sym (drop_more xs i x (sym h))) ∙ inv)

pub any_more : {A : Type 0} (p : A → Bool) (xs : List A) (i : ℕ) (x : A) (b : Bool) → Some x ≡ slice_get xs i → p x ≡ false → list_any p (drop i xs) ≡ b → list_any p (drop (i + 1) xs) ≡ b
any_more p xs i x b h e inv = sym (ap (λ v. v || list_any p (drop (i + 1) xs)) e) ∙ ap (list_any p) (sym (drop_more xs i x (sym h))) ∙ inv

pub any_none : {A : Type 0} (p : A → Bool) (xs : List A) (i : ℕ) (b : Bool) → None ≡ slice_get xs i → list_any p (drop i xs) ≡ b → b ≡ false
any_none p xs i b h inv = sym (ap (list_any p) (sym (drop_all xs i (sym h))) ∙ inv)

or_true : (a b : Bool) → b ≡ true → (a || b) ≡ true
or_true true b h = refl
or_true false b h = h

-- An element that passes the test.
pub any_at : {A : Type 0} (p : A → Bool) (xs : List A) (i : ℕ) (x : A) → Some x ≡ slice_get xs i → p x ≡ true → list_any p xs ≡ true
any_at p [] i x h e = absurd (cc)
any_at p (y ∷ ys) zero x h e = let s : x ≡ y = cc in let t : p y ≡ true = ap p (sym s) ∙ e in ap (λ v. v || list_any p ys) t
any_at p (y ∷ ys) (suc i) x h e = or_true (p y) (list_any p ys) (any_at p ys i x h e)

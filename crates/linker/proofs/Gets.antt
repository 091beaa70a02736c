-- Lists that are read by index, one element after the other.
use Rattle.std.proofs.Common.{◌≡◌, ℕ, zero, suc, ◌+◌, List, [], ◌∷◌, ◌++◌, drop, map, Some, None, Bool, true, false, refl, sym, ap, ◌∙◌, append_assoc, append-nil, arith}
use Rattle.std.specs.Prelude.{slice_get, ◌||◌}
use Rattle.std.specs.List.{list_any}

drop_suc : {A : Type 0} (xs : List A) (i : ℕ) (x : A) → slice_get xs i ≡ Some x → drop i xs ≡ x ∷ drop (suc i) xs
drop_suc [] i x h = absurd (cc)
drop_suc (y ∷ ys) zero x h = let e : y ≡ x = cc in ap (λ z. z ∷ ys) e
drop_suc (y ∷ ys) (suc i) x h = drop_suc ys i x h

pub drop_more : {A : Type 0} (xs : List A) (i : ℕ) (x : A) → slice_get xs i ≡ Some x → drop i xs ≡ x ∷ drop (i + 1) xs
drop_more xs i x h = let n : suc i ≡ i + 1 = omega arith in drop_suc xs i x h ∙ ap (λ m. x ∷ drop m xs) n

pub drop_all : {A : Type 0} (xs : List A) (i : ℕ) → slice_get xs i ≡ None → drop i xs ≡ []
drop_all [] zero h = refl
drop_all [] (suc i) h = refl
drop_all (y ∷ ys) zero h = absurd (cc)
drop_all (y ∷ ys) (suc i) h = drop_all ys i h

-- One more element is appended.
pub pushed : {A B : Type 0} (f : A → B) (xs : List A) (i : ℕ) (x : A) (y : B) (out new all : List B) → Some x ≡ slice_get xs i → y ≡ f x → new ≡ out ++ (y ∷ []) → out ++ map f (drop i xs) ≡ all → new ++ map f (drop (i + 1) xs) ≡ all
pushed f xs i x y out new all h e w inv =
    ap (λ l. l ++ map f (drop (i + 1) xs)) w
    ∙ append_assoc out (y ∷ []) (map f (drop (i + 1) xs))
    ∙ ap (λ z. out ++ (z ∷ map f (drop (i + 1) xs))) e
    ∙ ap (λ l. out ++ map f l) (sym (drop_more xs i x (sym h)))
    ∙ inv

pub pushed_all : {A B : Type 0} (f : A → B) (xs : List A) (i : ℕ) (out all : List B) → None ≡ slice_get xs i → out ++ map f (drop i xs) ≡ all → out ≡ all
pushed_all f xs i out all h inv = sym (append-nil out) ∙ ap (λ l. out ++ map f l) (sym (drop_all xs i (sym h))) ∙ inv

pub copied : {A : Type 0} (xs : List A) (i : ℕ) (x : A) (out new all : List A) → Some x ≡ slice_get xs i → new ≡ out ++ (x ∷ []) → out ++ drop i xs ≡ all → new ++ drop (i + 1) xs ≡ all
copied xs i x out new all h w inv =
    ap (λ l. l ++ drop (i + 1) xs) w ∙ append_assoc out (x ∷ []) (drop (i + 1) xs) ∙ ap (λ l. out ++ l) (sym (drop_more xs i x (sym h))) ∙ inv

pub copied_all : {A : Type 0} (xs : List A) (i : ℕ) (out all : List A) → None ≡ slice_get xs i → out ++ drop i xs ≡ all → out ≡ all
copied_all xs i out all h inv = sym (append-nil out) ∙ ap (λ l. out ++ l) (sym (drop_all xs i (sym h))) ∙ inv

-- One more element is tested.
pub any_here : {A : Type 0} (p : A → Bool) (xs : List A) (i : ℕ) (x : A) (b : Bool) → Some x ≡ slice_get xs i → p x ≡ true → list_any p (drop i xs) ≡ b → true ≡ b
any_here p xs i x b h e inv = sym (ap (λ v. v || list_any p (drop (i + 1) xs)) e) ∙ ap (list_any p) (sym (drop_more xs i x (sym h))) ∙ inv

pub any_more : {A : Type 0} (p : A → Bool) (xs : List A) (i : ℕ) (x : A) (b : Bool) → Some x ≡ slice_get xs i → p x ≡ false → list_any p (drop i xs) ≡ b → list_any p (drop (i + 1) xs) ≡ b
any_more p xs i x b h e inv = sym (ap (λ v. v || list_any p (drop (i + 1) xs)) e) ∙ ap (list_any p) (sym (drop_more xs i x (sym h))) ∙ inv

pub any_none : {A : Type 0} (p : A → Bool) (xs : List A) (i : ℕ) (b : Bool) → None ≡ slice_get xs i → list_any p (drop i xs) ≡ b → false ≡ b
any_none p xs i b h inv = ap (list_any p) (sym (drop_all xs i (sym h))) ∙ inv

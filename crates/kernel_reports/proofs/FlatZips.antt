-- Pairs of the items of two lists, one after the other.
use Rattle.std.proofs.Common.{◌≡◌, ◌⊎◌, inl, inr, List, [], ◌∷◌, ◌++◌, append_assoc, append-nil, sym, ◌∙◌, zip}
use Rattle.std.specs.List.{flat_map}

pub one_more : {A B C : Type 0} (f : A × B → List C) (xs more : List A) (ys others : List B) (x : A) (y : B) (before after all : List C) → xs ≡ x ∷ more → ys ≡ y ∷ others → before ++ flat_map f (zip xs ys) ≡ all → after ≡ before ++ f (x, y) → after ++ flat_map f (zip more others) ≡ all
one_more f xs more ys others x y before after all e d so_far is = rw (is, append_assoc) (rw (e, d) at so_far)

pub all_done : {A B C : Type 0} (f : A × B → List C) (xs : List A) (ys : List B) (done all : List C) → (xs ≡ []) ⊎ (ys ≡ []) → done ++ flat_map f (zip xs ys) ≡ all → done ≡ all
all_done f [] ys done all e so_far = sym (append-nil done) ∙ so_far
all_done f (x ∷ xs) [] done all e so_far = sym (append-nil done) ∙ so_far
all_done f (x ∷ xs) (y ∷ ys) done all (inl e) so_far = absurd (cc)
all_done f (x ∷ xs) (y ∷ ys) done all (inr e) so_far = absurd (cc)

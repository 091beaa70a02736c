-- Pairs of the items of two lists.
use Rattle.std.proofs.Common.{◌≡◌, ◌⊎◌, inl, inr, List, [], ◌∷◌, ◌++◌, append-nil, map, sym, ◌∙◌, zip}

pub all_done : {A B X Y : Type 0} (f : A → X) (g : B → Y) (xs : List A) (ys : List B) (done all : List (X × Y)) → (xs ≡ []) ⊎ (ys ≡ []) → done ++ zip (map f xs) (map g ys) ≡ all → done ≡ all
all_done f g [] ys done all e so_far = sym (append-nil done) ∙ so_far
all_done f g (x ∷ xs) [] done all e so_far = sym (append-nil done) ∙ so_far
all_done f g (x ∷ xs) (y ∷ ys) done all (inl e) so_far = absurd (cc)
all_done f g (x ∷ xs) (y ∷ ys) done all (inr e) so_far = absurd (cc)

-- Lists that are built element by element, and properties of each element.
use Rattle.std.proofs.Common.{◌≡◌, ℕ, ◌+◌, ◌<◌, ◌≤◌, List, [], ◌∷◌, ◌++◌, get_or, length, map, take, refl, ap, sym, ◌∙◌, subst}
use Rattle.std.specs.List.{All}
use Rattle.std.proofs.lemmas.List.{take_all, take_more}
use Rattle.std.proofs.lemmas.List.Elements.{All-more}

-- The elements before an index were converted, and have the property P.
pub record AreMade {X Y : Type 0} (f : X → Y) (P : X → Type 0) (xs : List X) (i : ℕ) (ys : List Y) : Type 0 where
  pub made : ys ≡ map f (take i xs)
  pub each : All P (take i xs)

map_one_more : {X Y : Type 0} (f : X → Y) (xs : List X) (x : X) → map f (xs ++ x ∷ []) ≡ map f xs ++ f x ∷ []
map_one_more f [] x = refl
map_one_more f (y ∷ xs) x = ap (λ ys. f y ∷ ys) (map_one_more f xs x)

pub one_more : {X Y : Type 0} (f : X → Y) (P : X → Type 0) (xs : List X) (i : ℕ) (ys : List Y) (x : X) (y : Y) → AreMade f P xs i ys → i < length xs → y ≡ f (get_or xs i x) → P (get_or xs i x) → AreMade f P xs (i + 1) (ys ++ y ∷ [])
one_more f P xs i ys x y before h is holds = record {
  made = ap (λ l. l ++ y ∷ []) before.made ∙ (ap (λ z. map f (take i xs) ++ z ∷ []) is ∙ (sym (map_one_more f (take i xs) (get_or xs i x)) ∙ ap (map f) (sym (take_more xs i x h))));
  each = All-more P xs i x h before.each holds;
}

pub all_made : {X Y : Type 0} (f : X → Y) (P : X → Type 0) (xs : List X) (i : ℕ) (ys : List Y) → AreMade f P xs i ys → length xs ≤ i → ys ≡ map f xs
all_made f P xs i ys h k = h.made ∙ ap (map f) (take_all i xs k)

pub all_hold : {X Y : Type 0} (f : X → Y) (P : X → Type 0) (xs : List X) (i : ℕ) (ys : List Y) → AreMade f P xs i ys → length xs ≤ i → All P xs
all_hold f P xs i ys h k = subst (All P) (take_all i xs k) h.each

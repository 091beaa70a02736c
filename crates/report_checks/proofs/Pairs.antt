-- Two lists whose items belong together, index by index.
use Rattle.std.proofs.Common.{◌≡◌, ℕ, zero, suc, ◌+◌, ◌<◌, ◌≤◌, ◌⊎◌, inl, inr, List, [], ◌∷◌, ◌++◌, length, None, Some, refl, subst, arith, slice_get}
use Rattle.std.specs.Prelude.{IfSome}
use Rattle.std.specs.Option.{IsSomeAnd}

split : (k n : ℕ) → (k < n) ⊎ (n ≤ k)
split k n = grind arith

same : (k n : ℕ) → k < n + 1 → n ≤ k → n ≡ k
same k n lt le = omega (arith, lt, le)

none_there : {X : Type 0} (xs : List X) (k : ℕ) → length xs ≤ k → slice_get xs k ≡ None
none_there [] zero le = refl
none_there [] (suc k) le = refl
none_there (x ∷ xs) zero le = absurd (omega (arith, le))
none_there (x ∷ xs) (suc k) le = none_there xs k (omega (arith, le))

nothing_there : {X : Type 0} (P : ℕ → X → Type 0) (xs : List X) (k : ℕ) → length xs ≤ k → IfSome (slice_get xs k) (P k)
nothing_there P xs k le = rw (none_there xs k le) tt

front : {Y : Type 0} (ys : List Y) (y : Y) (k : ℕ) → k < length ys → slice_get (ys ++ y ∷ []) k ≡ slice_get ys k
front [] y zero lt = absurd (omega (arith, lt))
front [] y (suc k) lt = absurd (omega (arith, lt))
front (x ∷ ys) y zero lt = refl
front (x ∷ ys) y (suc k) lt = front ys y k (omega (arith, lt))

last : {Y : Type 0} (ys : List Y) (y : Y) → slice_get (ys ++ y ∷ []) (length ys) ≡ Some y
last [] y = refl
last (x ∷ ys) y = last ys y

module _ {X Y : Type 0} (P : ℕ → X → Y → Type 0) (xs : List X) where
  abbrev pub At : List Y → ℕ → Type 0
  At ys k = IfSome (slice_get xs k) (λ x. IsSomeAnd (slice_get ys k) (P k x))

  pub none_yet : (k : ℕ) → k < 0 → At [] k
  none_yet k lt = absurd (omega (arith, lt))

  pub one_more : (n : ℕ) (ys : List Y) (x : X) (y : Y) → length ys ≡ n → ((k : ℕ) → k < n → At ys k) → slice_get xs n ≡ Some x → P n x y → (k : ℕ) → k < n + 1 → At (ys ++ y ∷ []) k
  one_more n ys x y size before is holds k lt = by (split k n) where
    by : (k < n) ⊎ (n ≤ k) → At (ys ++ y ∷ []) k
    by (inl less) = rw (front ys y k (rw size less)) (before k less)
    by (inr not_less) =
        subst (At (ys ++ y ∷ [])) (same k n lt not_less)
        (rw is (subst (λ m. IsSomeAnd (slice_get (ys ++ y ∷ []) m) (P n x)) size (rw (last ys y) holds)))

  pub all_of : (n : ℕ) (ys : List Y) → length xs ≤ n → ((k : ℕ) → k < n → At ys k) → (k : ℕ) → At ys k
  all_of n ys le before k = by (split k n) where
    by : (k < n) ⊎ (n ≤ k) → At ys k
    by (inl less) = before k less
    by (inr not_less) = nothing_there (λ k x. IsSomeAnd (slice_get ys k) (P k x)) xs k (omega (arith, le, not_less))

-- The number of ids that aren't open.
use Rattle.std.proofs.Common.{◌≡◌, ℕ, zero, suc, ◌+◌, ◌<◌, ◌≤◌, Bool, true, false, cond, List, [], ◌∷◌, ◌++◌, length, refl, sym, ap, subst, ◌∙◌, arith, inl, inr}
use Rattle.std.proofs.lemmas.Bool.Decides.{nat_tests}
use Rattle.std.proofs.lemmas.Grind.{common_steps}
use Rattle.std.proofs.lemmas.List.Folds.{list_any-append}
use Rattle.std.specs.Prelude.{◌||◌, ◌⊎◌, ◌==◌}
use Rattle.core_match.specs.EmptyTypes.{failing, free}
use Rattle.core_match.specs.Searches.{is_among}

counts : (a b : Bool) (w m n : ℕ) → (a ≡ false → b ≡ false) → m ≤ n → cond a 0 w + m ≤ cond b 0 w + n
counts true true w m n h le = omega arith
counts true false w m n h le = omega arith
counts false true w m n h le = absurd (let e : true ≡ false = h refl in cc)
counts false false w m n h le = omega arith

pub fails-le : (w : ℕ → ℕ) (p q : ℕ → Bool) (n : ℕ) → ((k : ℕ) → k < n → p k ≡ false → q k ≡ false) → failing w p n ≤ failing w q n
fails-le w p q zero h = omega arith
fails-le w p q (suc n) h = counts (p n) (q n) (w n) _ _ (h n (omega arith)) (fails-le w p q n (λ k lt. h k (omega arith)))

at_most_one : (a b : Bool) (m n : ℕ) → m ≤ n → cond a 0 1 + m ≤ suc (cond b 0 1 + n)
at_most_one true true m n le = omega arith
at_most_one true false m n le = omega arith
at_most_one false true m n le = omega arith
at_most_one false false m n le = omega arith

counts_more : (a b : Bool) (m n : ℕ) → (a ≡ false → b ≡ false) → m ≤ suc n → cond a 0 1 + m ≤ suc (cond b 0 1 + n)
counts_more true true m n h le = omega arith
counts_more true false m n h le = omega arith
counts_more false true m n h le = absurd (let e : true ≡ false = h refl in cc)
counts_more false false m n h le = omega arith

same_number : (k y : ℕ) → (k == y) ≡ true → k ≡ y
same_number k y e = grind (arith, nat_tests)

other_number : (k n y : ℕ) → n ≡ y → k < n → (k == y) ≡ false
other_number k n y e lt = grind (arith, nat_tests)

abbrev one : ℕ → ℕ
one k = 1

one-by : (p q : ℕ → Bool) (y n : ℕ) (b : Bool) → (n == y) ≡ b → ((k : ℕ) → (k == y) ≡ false → p k ≡ false → q k ≡ false) → failing one p n ≤ suc (failing one q n) → failing one p (suc n) ≤ suc (failing one q (suc n))
one-by p q y n true e h below = at_most_one (p n) (q n) _ _ (fails-le one p q n (λ k lt. h k (other_number k n y (same_number n y e) lt)))
one-by p q y n false e h below = counts_more (p n) (q n) _ _ (h n e) below

-- If the test p fails only where q fails, except at one number, it fails at most once more than q.
fails-one : (p q : ℕ → Bool) (y n : ℕ) → ((k : ℕ) → (k == y) ≡ false → p k ≡ false → q k ≡ false) → failing one p n ≤ suc (failing one q n)
fails-one p q y zero h = omega arith
fails-one p q y (suc n) h = one-by p q y n (n == y) refl h (fails-one p q y n h)

below_suc : (k n : ℕ) → k < suc n → (k ≡ n) ⊎ (k < n)
below_suc k n lt = grind arith

pub keeps : (p q : ℕ → Bool) → ((k : ℕ) → p k ≡ true → q k ≡ true) → (k : ℕ) → q k ≡ false → p k ≡ false
keeps p q h k e = by (p k) refl where
  by : (b : Bool) → p k ≡ b → p k ≡ false
  by true is = absurd (let t : q k ≡ true = h k is in cc)
  by false is = is

at_last : (a b : Bool) (w m n : ℕ) → a ≡ false → b ≡ true → m ≤ n → w + (cond b 0 w + m) ≤ cond a 0 w + n
at_last false true w m n here there le = omega arith
at_last true b w m n here there le = absurd cc
at_last false false w m n here there le = absurd cc

before : (a b : Bool) (v w m n : ℕ) → (b ≡ false → a ≡ false) → v + m ≤ n → v + (cond b 0 w + m) ≤ cond a 0 w + n
before true true v w m n h le = omega arith
before false true v w m n h le = omega arith
before false false v w m n h le = omega arith
before true false v w m n h le = absurd (let e : true ≡ false = h refl in cc)

-- If q holds wherever p does, and also at a number where p fails, its failures weigh less.
pub fails-lt : (w : ℕ → ℕ) (p q : ℕ → Bool) (y n : ℕ) → ((k : ℕ) → p k ≡ true → q k ≡ true) → y < n → p y ≡ false → q y ≡ true → w y + failing w q n ≤ failing w p n
fails-lt w p q y zero h lt here there = absurd (omega arith)
fails-lt w p q y (suc n) h lt here there =
    elim (below_suc y n lt) [
      | inl same ↦ subst (λ (x : ℕ). w x + failing w q (suc n) ≤ failing w p (suc n)) (sym same) (at_last (p n) (q n) (w n) _ _ (ap p (sym same) ∙ here) (ap q (sym same) ∙ there) (fails-le w q p n (λ k below. keeps p q h k)))
      | inr below ↦ before (p n) (q n) (w y) (w n) _ _ (keeps p q h n) (fails-lt w p q y n h below here there)
    ]

-- ---- Open ids

pub among-push : (xs : List ℕ) (y k : ℕ) → is_among (xs ++ y ∷ []) k ≡ (is_among xs k || (y == k))
among-push xs y k = grind (arith, common_steps, list_any-append)

or_true : (a b : Bool) → a ≡ true → (a || b) ≡ true
or_true true b e = refl
or_true false b e = absurd cc

or_right : (a b : Bool) → b ≡ true → (a || b) ≡ true
or_right true b e = refl
or_right false b e = e

or_false : (a b : Bool) → (a || b) ≡ false → a ≡ false
or_false true b e = absurd cc
or_false false b e = refl

neither : (a b : Bool) → a ≡ false → b ≡ false → (a || b) ≡ false
neither true b e f = absurd cc
neither false b e f = f

self : (k : ℕ) → (k == k) ≡ true
self k = grind (arith, nat_tests)

flipped : (k y : ℕ) → (k == y) ≡ false → (y == k) ≡ false
flipped k y e = grind (arith, nat_tests)

pub among-kept : (xs : List ℕ) (y k : ℕ) → is_among xs k ≡ true → is_among (xs ++ y ∷ []) k ≡ true
among-kept xs y k e = among-push xs y k ∙ or_true (is_among xs k) (y == k) e

pub among-new : (xs : List ℕ) (y : ℕ) → is_among (xs ++ y ∷ []) y ≡ true
among-new xs y = among-push xs y y ∙ or_right (is_among xs y) (y == y) (self y)

-- Opening an id decreases the number of ids that aren't open.
pub free-push : (n : ℕ) (xs : List ℕ) (y : ℕ) → y < n → is_among xs y ≡ false → suc (free n (xs ++ y ∷ [])) ≤ free n xs
free-push n xs y lt fresh = omega (arith, fails-lt one (is_among xs) (is_among (xs ++ y ∷ [])) y n (λ k e. among-kept xs y k e) lt fresh (among-new xs y))

-- Closing an id increases the number of ids that aren't open by at most one.
pub free-pop : (n : ℕ) (xs : List ℕ) (y : ℕ) → free n xs ≤ suc (free n (xs ++ y ∷ []))
free-pop n xs y = fails-one (is_among xs) (is_among (xs ++ y ∷ [])) y n (λ k other e. among-push xs y k ∙ neither (is_among xs k) (y == k) e (flipped k y other))

free-one : (n : ℕ) (x : ℕ) (xs : List ℕ) → free n xs ≤ suc (free n (x ∷ xs))
free-one n x xs = fails-one (is_among xs) (is_among (x ∷ xs)) x n (λ k other e. neither (x == k) (is_among xs k) (flipped k x other) e)

pub free-none : (n : ℕ) → free n [] ≡ n
free-none zero = refl
free-none (suc n) = let below = free-none n in omega arith

-- Each open id reduces the number of ids that aren't open by at most one.
pub free-all : (n : ℕ) (xs : List ℕ) → n ≤ free n xs + length xs
free-all n [] = let none = free-none n in omega arith
free-all n (x ∷ xs) = omega (arith, free-all n xs, free-one n x xs)

no-more : (a b : Bool) → (b ≡ true → a ≡ true) → (a || b) ≡ a
no-more true b h = refl
no-more false true h = sym (h refl)
no-more false false h = refl

same-test : (xs : List ℕ) (y : ℕ) → is_among xs y ≡ true → (k : ℕ) → is_among (xs ++ y ∷ []) k ≡ is_among xs k
same-test xs y e k = among-push xs y k ∙ no-more (is_among xs k) (y == k) (λ is. subst (λ (j : ℕ). is_among xs j ≡ true) (same_number y k is) e)

free-again : (n : ℕ) (xs : List ℕ) (y : ℕ) → is_among xs y ≡ true → free n (xs ++ y ∷ []) ≡ free n xs
free-again zero xs y e = refl
free-again (suc n) xs y e = rw (same-test xs y e n, free-again n xs y e) refl

pub length-push : (xs : List ℕ) (y : ℕ) → length (xs ++ y ∷ []) ≡ suc (length xs)
length-push xs y = grind (arith, common_steps)

-- If the open ids and those that aren't open are together at most all ids, no id is open twice.
pub not-twice : (n : ℕ) (xs : List ℕ) (y : ℕ) → free n (xs ++ y ∷ []) + length (xs ++ y ∷ []) ≤ n → is_among xs y ≡ false
not-twice n xs y few = by (is_among xs y) refl where
  by : (b : Bool) → is_among xs y ≡ b → is_among xs y ≡ false
  by true e = absurd (omega (arith, free-all n xs, free-again n xs y e, length-push xs y))
  by false e = e

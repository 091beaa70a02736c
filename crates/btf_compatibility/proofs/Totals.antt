-- The weight of the pairs of ids of two tables that fail a test.
use Rattle.std.proofs.Common.{◌≡◌, ℕ, zero, suc, ◌+◌, ◌*◌, ◌<◌, ◌≤◌, Bool, true, false, cond, length, inl, inr, refl, subst, arith}
use Rattle.std.proofs.lemmas.Bool.{cases_eq}
use Rattle.std.proofs.lemmas.Grind.{common_steps}
use Rattle.btf_tables.specs.Tables.{Table}

-- The sum of f over the numbers below n.
abbrev pub total : (ℕ → ℕ) → ℕ → ℕ
total f zero = 0
total f (suc n) = f n + total f n

total-most : (f : ℕ → ℕ) (most : ℕ) → ((k : ℕ) → f k ≤ most) → (n : ℕ) → total f n ≤ n * most
total-most f most h zero = omega arith
total-most f most h (suc n) = grind (arith, common_steps, h n, total-most f most h n)

module _ (f g : ℕ → ℕ) (below : (k : ℕ) → f k ≤ g k) where
  total-le : (n : ℕ) → total f n ≤ total g n
  total-le zero = omega arith
  total-le (suc n) = omega (arith, below n, total-le n)

  total-lt : (w i n : ℕ) → i < n → f i + w ≤ g i → total f n + w ≤ total g n
  total-lt w i zero lt here = absurd (omega (arith, lt))
  total-lt w i (suc n) lt here =
      elim (cases_eq i n) [
        | inl same ↦
            let last = subst (λ (k : ℕ). f k + w ≤ g k) same here in
            omega (arith, last, total-le n)
        | inr other ↦
            let before : i < n = grind arith in
            omega (arith, below n, total-lt w i n before here)
      ]

unfoldable pub failing : Table → Table → (ℕ → ℕ → Bool) → (ℕ → ℕ → ℕ) → ℕ
failing local target test weight =
    total (λ l. total (λ r. cond (test l r) 0 (weight l r)) (suc (length target.types)))
    (suc (length local.types))

at_most_one : (b : Bool) → cond b 0 1 ≤ 1
at_most_one true = omega arith
at_most_one false = omega arith

pub failing-most : (local target : Table) (test : ℕ → ℕ → Bool)
    → failing local target test (λ _ _. 1)
    ≤ suc (length local.types) * suc (length target.types)
unfolding failing
failing-most local target test =
    let n = suc (length target.types) in
    let row : (l : ℕ) → total (λ r. cond (test l r) 0 1) n ≤ n
    = λ l. omega (arith, total-most (λ r. cond (test l r) 0 1) 1 (λ r. at_most_one (test l r)) n) in
    total-most (λ l. total (λ r. cond (test l r) 0 1) n) n row (suc (length local.types))

weigh-le : (a b : Bool) (w : ℕ) → (a ≡ true → b ≡ true) → cond b 0 w ≤ cond a 0 w
weigh-le a true w keeps = omega arith
weigh-le true false w keeps = absurd (let wrong : false ≡ true = keeps refl in cc)
weigh-le false false w keeps = omega arith

-- A test that more pairs pass.
module _ (local target : Table) (p q : ℕ → ℕ → Bool) (weight : ℕ → ℕ → ℕ)
    (keeps : (l r : ℕ) → p l r ≡ true → q l r ≡ true) where
  each-le : (l r : ℕ) → cond (q l r) 0 (weight l r) ≤ cond (p l r) 0 (weight l r)
  each-le l r = weigh-le (p l r) (q l r) (weight l r) (keeps l r)

  row-le : (l : ℕ)
      → total (λ r. cond (q l r) 0 (weight l r)) (suc (length target.types))
      ≤ total (λ r. cond (p l r) 0 (weight l r)) (suc (length target.types))
  row-le l = total-le _ _ (each-le l) (suc (length target.types))

  pub failing-le : failing local target q weight ≤ failing local target p weight
  unfolding failing
  failing-le = total-le _ _ row-le (suc (length local.types))

  pub failing-lt : (l r : ℕ) → l < suc (length local.types) → r < suc (length target.types)
      → p l r ≡ false → q l r ≡ true
      → failing local target q weight + weight l r ≤ failing local target p weight
  unfolding failing
  failing-lt l r l_below r_below before after =
      let here : cond (q l r) 0 (weight l r) + weight l r ≤ cond (p l r) 0 (weight l r)
      = rw (before, after) (omega arith) in
      total-lt _ _ row-le (weight l r) l (suc (length local.types)) l_below
      (total-lt _ _ (each-le l) (weight l r) r (suc (length target.types)) r_below here)

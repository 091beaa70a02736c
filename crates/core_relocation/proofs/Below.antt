-- Tests of the numbers below another, and how many satisfy a test.
use Rattle.std.proofs.Common.{◌≡◌, ◌⊎◌, inl, inr, ◌&&◌, ◌||◌, ℕ, zero, suc, ◌+◌, ◌<◌, ◌≤◌, Bool, true, false, refl, sym, ap, ap₂, ◌∙◌, arith}
use Rattle.std.proofs.lemmas.Bool.{cases_eq}
use Rattle.core_relocation.specs.Reach.{any_below}

pub or-true : (a b : Bool) → (a || b) ≡ true → (a ≡ true) ⊎ (b ≡ true)
or-true true b is = inl refl
or-true false b is = inr is

pub or-left : (a b : Bool) → a ≡ true → (a || b) ≡ true
or-left true b is = refl
or-left false b is = cc

pub or-right : (a b : Bool) → b ≡ true → (a || b) ≡ true
or-right true b is = refl
or-right false b is = is

pub or-again : (a b : Bool) → ((a || b) || b) ≡ (a || b)
or-again true b = refl
or-again false true = refl
or-again false false = refl

pub and-both : (a b : Bool) → a ≡ true → b ≡ true → (a && b) ≡ true
and-both true b one two = two
and-both false b one two = cc

pub and-true : (a b : Bool) → (a && b) ≡ true → (a ≡ true) × (b ≡ true)
and-true true b is = (refl, is)
and-true false b is = cc

pub any-at : (n : ℕ) (test : ℕ → Bool) (k : ℕ) → k < n → test k ≡ true → any_below n test ≡ true
any-at zero test k lt is = absurd (omega (arith, lt))
any-at (suc n) test k lt is = by (cases_eq k n) (any-at n test k) where
  by : (k ≡ n) ⊎ ((k ≡ n) → ⊥) → (k < n → test k ≡ true → any_below n test ≡ true) → (test n || any_below n test) ≡ true
  by (inl same) rest = or-left (test n) (any_below n test) (ap test (sym same) ∙ is)
  by (inr other) rest = or-right (test n) (any_below n test) (rest (omega (arith, lt, other)) is)

pub any-of : (n : ℕ) (test : ℕ → Bool) → any_below n test ≡ true → (k : ℕ) × (test k ≡ true)
any-of zero test is = cc
any-of (suc n) test is = by (or-true (test n) (any_below n test) is) (any-of n test) where
  by : (test n ≡ true) ⊎ (any_below n test ≡ true) → (any_below n test ≡ true → (k : ℕ) × (test k ≡ true)) → (k : ℕ) × (test k ≡ true)
  by (inl here) rest = (n, here)
  by (inr before) rest = rest before

-- Two tests are the same below a number.
abbrev pub AreSame : ℕ → (ℕ → Bool) → (ℕ → Bool) → Type 0
AreSame zero p q = Unit {0}
AreSame (suc n) p q = (p n ≡ q n) × AreSame n p q

pub same-each : (n : ℕ) (p q : ℕ → Bool) → ((k : ℕ) → p k ≡ q k) → AreSame n p q
same-each zero p q same = tt
same-each (suc n) p q same = (same n, same-each n p q same)

pub same-at : (n : ℕ) (p q : ℕ → Bool) → AreSame n p q → (k : ℕ) → k < n → p k ≡ q k
same-at zero p q same k lt = absurd (omega (arith, lt))
same-at (suc n) p q same k lt = by (cases_eq k n) (same-at n p q same.1 k) where
  by : (k ≡ n) ⊎ ((k ≡ n) → ⊥) → (k < n → p k ≡ q k) → p k ≡ q k
  by (inl is) rest = ap p is ∙ same.0 ∙ ap q (sym is)
  by (inr other) rest = rest (omega (arith, lt, other))

pub any-same : (n : ℕ) (p q leads : ℕ → Bool) → AreSame n p q → any_below n (λ k. p k && leads k) ≡ any_below n (λ k. q k && leads k)
any-same zero p q leads same = refl
any-same (suc n) p q leads same = ap₂ ◌||◌ (ap (λ (a : Bool). a && leads n) same.0) (any-same n p q leads same.1)

-- How many numbers below another satisfy a test.
abbrev pub one-for : Bool → ℕ
one-for true = 1
one-for false = 0

abbrev pub many : ℕ → (ℕ → Bool) → ℕ
many zero p = 0
many (suc n) p = one-for (p n) + many n p

le-self : (n : ℕ) → n ≤ n
le-self n = omega arith

pub few : (n : ℕ) (p : ℕ → Bool) → many n p ≤ n
few zero p = le-self zero
few (suc n) p = by (p n) (few n p) where
  by : (a : Bool) → many n p ≤ n → one-for a + many n p ≤ suc n
  by true rest = let e : 1 + many n p ≤ suc n = omega (arith, rest) in e
  by false rest = let e : 0 + many n p ≤ suc n = omega (arith, rest) in e

false-is : false ≡ true → ⊥
false-is is = cc

one-less : (a b : Bool) → (a ≡ true → b ≡ true) → one-for a ≤ one-for b
one-less true true then = le-self 1
one-less true false then = absurd (false-is (then refl))
one-less false true then = let e : 0 ≤ 1 = omega arith in e
one-less false false then = le-self 0

no-more : (n : ℕ) (p q : ℕ → Bool) → ((k : ℕ) → p k ≡ true → q k ≡ true) → many n p ≤ many n q
no-more zero p q then = le-self zero
no-more (suc n) p q then = omega (arith, one-less (p n) (q n) (then n), no-more n p q then)

-- A set that grows stays the same or has more members.
pub more : (n : ℕ) (p q : ℕ → Bool) → ((k : ℕ) → p k ≡ true → q k ≡ true) → AreSame n p q ⊎ (many n p < many n q)
more zero p q then = inl tt
more (suc n) p q then = by (p n) (q n) (then n) (no-more n p q then) (more n p q then) where
  by : (a b : Bool) → (a ≡ true → b ≡ true) → many n p ≤ many n q → AreSame n p q ⊎ (many n p < many n q)
      → ((a ≡ b) × AreSame n p q) ⊎ (one-for a + many n p < one-for b + many n q)
  by true true here least (inl same) = inl (refl, same)
  by true true here least (inr lt) = let e : 1 + many n p < 1 + many n q = omega (arith, lt) in inr e
  by false false here least (inl same) = inl (refl, same)
  by false false here least (inr lt) = let e : 0 + many n p < 0 + many n q = omega (arith, lt) in inr e
  by false true here least rest = let e : 0 + many n p < 1 + many n q = omega (arith, least) in inr e
  by true false here least rest = absurd (false-is (here refl))

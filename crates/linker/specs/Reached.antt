-- The functions that chains of references reach from a program's own function.
use Rattle.std.specs.Prelude.{◌≡◌, ℕ, zero, suc, true, false, List, [], ◌∷◌, Some}
use Rattle.linker.specs.Layout.{Key, Table, ref_at, has}

-- The function `a` has a reference to `b`.
abbrev pub Refers : Table → Key → Key → Type 0
Refers t a b = (slot : ℕ) × (ref_at t a slot ≡ Some b)

-- A chain of `n + 1` references leads from `a` to `b`.
abbrev pub Chain : Table → Key → Key → ℕ → Type 0
Chain t a b zero = Refers t a b
Chain t a b (suc n) = (c : Key) × (Chain t a c n × Refers t c b)

abbrev pub AreDistinct : List Key → Type 0
AreDistinct [] = Unit {0}
AreDistinct (k ∷ ks) = (has ks k ≡ false) × AreDistinct ks

-- The functions `ks` are those that chains of references reach from the program's own function,
-- each once.
pub record AreReached (t : Table) (own : Key) (ks : List Key) : Type 0 where
  pub reached : (k : Key) → has ks k ≡ true → (n : ℕ) × Chain t own k n
  pub all : (k : Key) (n : ℕ) → Chain t own k n → has ks k ≡ true
  pub once : AreDistinct ks

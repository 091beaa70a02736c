-- Structs and unions that were searched without a match. Each is searched once.
use Rattle.std.specs.Prelude.{◌≡◌, ◌≤◌, ℕ, zero, suc, ◌+◌, ◌==◌, Bool, true, false, List, Option, None, Ok, if◌then◌else◌}
use Rattle.std.specs.BTreeMap.{is_at}
use Rattle.std.specs.List.{list_any}
use Rattle.std.specs.Ordering.{nat_cmp}
use Rattle.core_match.specs.Looks.{Search}
use Rattle.core_match.specs.Searches.{found_in, is_among, most_open}

abbrev pub is_noted : List ℕ → ℕ → Bool
is_noted noted id = list_any (is_at (nat_cmp id)) noted

-- One more id is noted.
pub record NotesOne (before after : List ℕ) (id : ℕ) : Type 0 where
  pub each : (k : ℕ) → is_noted after k ≡ (if k == id then true else is_noted before k)

-- No open id is noted.
pub record AreApart (noted open_ids : List ℕ) : Type 0 where
  pub each : (id : ℕ) → is_among open_ids id ≡ true → is_noted noted id ≡ false

-- The sum of the weights of the numbers below a limit that fail a test.
abbrev pub failing : (ℕ → ℕ) → (ℕ → Bool) → ℕ → ℕ
failing weight test zero = 0
failing weight test (suc n) = (if test n then 0 else weight n) + failing weight test n

-- The number of ids below a limit that aren't open.
abbrev pub free : ℕ → List ℕ → ℕ
free n open_ids = failing (λ id. 1) (is_among open_ids) n

-- A search of a noted struct or union has no match, wherever it occurs.
pub record HoldNothing (search : Search) (noted : List ℕ) : Type 0 where
  pub each : (id : ℕ) → is_noted noted id ≡ true → (open_ids : List ℕ) → AreApart noted open_ids
      → (n : ℕ)
      → free (most_open search.target) open_ids ≤ n
      → (bits : Option ℕ)
      → found_in n search open_ids id bits ≡ Ok None

-- The laws of layouts.
use Rattle.std.specs.Prelude.{◌≡◌, ◌≤◌, ◌+◌, ℕ, false, List, [], ◌∷◌, if◌then◌else◌, length}
use Rattle.linker.specs.Layout.{Key, Table, same, IsOrder, IsLayout, linked}
use Rattle.linker.specs.Machines.{VisitsSame}
use Rattle.linker.specs.Reached.{AreReached}

-- A program has at most one layout.
pub record LayoutIsUnique : Type 0 where
  pub same : (t : Table) (own : Key) (a b : List Key) → IsLayout t own a → IsLayout t own b → a ≡ b

-- The appended copies are those of the functions that chains of references reach.
pub record ReachedAreAppended : Type 0 where
  pub each : (t : Table) (own : Key) (ks : List Key) → IsLayout t own ks → AreReached t own ks

-- The run of a program's linked slots agrees with the run of its functions.
pub record LinkedVisitsSame : Type 0 where
  pub each : (t : Table) (own : Key) (ks : List Key)
      → IsLayout t own ks
      → VisitsSame t own ks (linked t own ks)

-- The number of copies of a function in a program, including the first copy, of the own function.
abbrev pub copy_count : Key → List Key → Key → ℕ
copy_count own [] key = if same own key then 1 else 0
copy_count own (k ∷ ks) key = copy_count own ks key + (if same k key then 1 else 0)

-- A program's own function has at most two copies, and each other function at most one.
pub record CopiesAreFew : Type 0 where
  pub own : (t : Table) (own : Key) (ks : List Key) → IsOrder t own ks → copy_count own ks own ≤ 2
  pub others : (t : Table) (own : Key) (ks : List Key) (key : Key)
      → IsOrder t own ks
      → same own key ≡ false
      → copy_count own ks key ≤ 1

-- The number of slots of some functions together.
abbrev pub slots_of : Table → List Key → ℕ
slots_of t [] = 0
slots_of t (k ∷ ks) = length (t.slots k) + slots_of t ks

-- A program is as long as its own function and the functions of its appended copies together.
pub record LengthsAdd : Type 0 where
  pub each : (t : Table) (own : Key) (ks : List Key)
      → length (linked t own ks) ≡ length (t.slots own) + slots_of t ks

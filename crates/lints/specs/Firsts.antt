-- The first maps with each number, as they are kept while notes are made.
use Rattle.std.specs.Prelude.{◌≡◌, ℕ, List, ◌++◌}
use Rattle.std.specs.BTreeMap.{is_at}
use Rattle.std.specs.Borrow.{Bor}
use Rattle.std.specs.Map.{lookup}
use Rattle.std.specs.Option.{option_map}
use Rattle.std.specs.Ordering.{nat_cmp}
use Rattle.lints.specs.Notes.{NoteContent, first_with, shared_notes}

-- For each number that a map has, the name of the first such map is kept.
pub record AreFirsts (numbers : List (ℕ × List ℕ)) (firsts : List (ℕ × Bor (List ℕ))) : Type 0 where
  pub each : (number : ℕ)
      → option_map (λ name. name.now) (lookup (is_at (nat_cmp number)) firsts)
      ≡ first_with numbers number

-- More maps are noted. If the kept names are the first ones of some numbers, they are afterwards
-- the first ones of these numbers and of those of the noted maps.
pub record AreNoted (more : List (ℕ × List ℕ)) (firsts firsts_after : List (ℕ × Bor (List ℕ)))
    (notes notes_after : List NoteContent) : Type 0 where
  pub firsts_are : (numbers : List (ℕ × List ℕ))
      → AreFirsts numbers firsts
      → AreFirsts (numbers ++ more) firsts_after
  pub notes_are : (numbers : List (ℕ × List ℕ))
      → AreFirsts numbers firsts
      → notes_after ≡ notes ++ shared_notes numbers more

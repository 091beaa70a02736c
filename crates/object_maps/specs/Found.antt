-- Maps with their names, in the order in which they are found and by name.
use Rattle.std.specs.Prelude.{◌≡◌, ℕ, List, fold, find, reverse, bytes_eq, Bool, Option}
use Rattle.std.specs.BTreeMap.{insert_entry, is_at}
use Rattle.std.specs.Cmp.Lexicographic.{slice_cmp}
use Rattle.std.specs.Map.{lookup}
use Rattle.std.specs.Option.{option_map}
use Rattle.std.specs.Ordering.{nat_cmp}
use Rattle.ebpf_items.specs.Maps.{MapView}

-- Maps by name after an insertion, which replaces an earlier map of the name.
abbrev pub with_map : List (List ℕ × MapView) → List ℕ × MapView → List (List ℕ × MapView)
with_map maps found = insert_entry (slice_cmp nat_cmp) maps found.0 found.1

-- Maps by name after the insertion of the found maps, one after the other.
unfoldable pub entered : List (List ℕ × MapView) → List (List ℕ × MapView) → List (List ℕ × MapView)
entered maps found = fold with_map maps found

abbrev pub is_named : List ℕ → List ℕ × MapView → Bool
is_named name found = bytes_eq name found.0

-- The last found map of a name.
abbrev pub last_named : List (List ℕ × MapView) → List ℕ → Option MapView
last_named found name = option_map (λ f. f.1) (find (is_named name) (reverse found))

-- The map of each name is the last found map of that name.
pub record AreLast (maps found : List (List ℕ × MapView)) : Type 0 where
  pub at : (name : List ℕ) → lookup (is_at (slice_cmp nat_cmp name)) maps ≡ last_named found name

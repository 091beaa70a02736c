-- Maps by the index of their section, in a `BTreeMap`.
use Rattle.std.specs.Prelude.{◌≡◌, ℕ, ◌==◌, List, Option, Some, None, map, find, if◌then◌else◌}
use Rattle.std.specs.BTreeMap.{BTreeMap, get}
use Rattle.std.specs.Cmp.Lexicographic.{slice_cmp}
use Rattle.std.specs.List.Sorted.{IsStrictlySortedBy}
use Rattle.std.specs.Option.{option_map, option_or}
use Rattle.std.specs.Ordering.{nat_cmp}
use Rattle.ebpf_items.specs.Maps.{MapView}
use Rattle.global_data.specs.GlobalData.{Extent, extent_of}

abbrev pub extent_in : List (List ℕ × MapView) → ℕ → Option Extent
extent_in maps index = option_map extent_of (find (λ m. m.1.section_index == index) maps)

-- The `BTreeMap` has the extent of the map of each section. The names of the maps are strictly
-- increasing.
pub record AreExtents (maps : List (List ℕ × MapView)) (by_section : BTreeMap ℕ Extent)
    : Type 0 where
  pub at : (index : ℕ) → get nat_cmp by_section index ≡ extent_in maps index
  pub rising : IsStrictlySortedBy (slice_cmp nat_cmp) (map (λ e. e.0) maps)

-- One more map is inserted, unless its section has a map.
abbrev pub Enters : BTreeMap ℕ Extent → BTreeMap ℕ Extent → ℕ → Extent → Type 0
Enters before later section extent =
    (index : ℕ)
    → get nat_cmp later index
    ≡ option_or (get nat_cmp before index) (if section == index then Some extent else None)

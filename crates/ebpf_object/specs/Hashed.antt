-- The contents of std's hashed collections, in the order in which passes take them.
use Rattle.std.specs.Prelude.{ℕ, ℤ, Bool, List, [], fold, map, Option}
use Rattle.std.specs.BTreeMap.{insert_entry}
use Rattle.std.specs.BTreeSet.{insert_key}
use Rattle.std.specs.Borrow.{Bor}
use Rattle.std.specs.Cmp.Lexicographic.{slice_cmp}
use Rattle.std.specs.Iterator.{DrainsIf}
use Rattle.std.specs.Ordering.{nat_cmp}
use Rattle.ebpf_items.specs.Maps.{map_view}
use Rattle.ebpf_items.specs.declared.maps.Map.{Map}
use Rattle.settings.specs.ValuesContent.{GlobalContent}
use Rattle.slot_relocation.specs.Maps.{NumberedMap}

-- A sorted list of numbers, and its extension by more numbers.
abbrev pub and_in_order : List ℕ → List ℕ → List ℕ
and_in_order so_far numbers = fold (insert_key nat_cmp) so_far numbers

abbrev pub in_order : List ℕ → List ℕ
in_order numbers = and_in_order [] numbers

-- A variable's name with its value, and whether the object must have the variable.
abbrev pub Valued : Type 0
Valued = Bor (List ℕ) × (Bor (List ℕ) × Bool)

abbrev pub value_of : Valued → GlobalContent
value_of v = record { bytes = v.1.0.now; must_exist = v.1.1 }

abbrev pub with_value : List (List ℕ × GlobalContent) → Valued → List (List ℕ × GlobalContent)
with_value so_far v = insert_entry (slice_cmp nat_cmp) so_far v.0.now (value_of v)

-- The values of global variables, sorted by name, and their extension by more values.
abbrev pub and_by_name : List (List ℕ × GlobalContent) → List Valued → List (List ℕ × GlobalContent)
and_by_name so_far values = fold with_value so_far values

abbrev pub by_name : List Valued → List (List ℕ × GlobalContent)
by_name values = and_by_name [] values

-- A map with its name and its number.
abbrev pub Named : Type 0
Named = Bor (List ℕ) × ℤ × Bor Map

abbrev pub numbered : Named → NumberedMap
numbered m = record { name = m.0.now; number = m.1; map = map_view m.2.now }

-- An iterator yields maps that have a property.
pub record HandsOver {S : Type 0} (steps : S → Option Named → S → Type 0) (from : S)
    (P : List NumberedMap → Type 0) : Type 0 where
  pub items : List Named
  pub handed : DrainsIf steps (Unit {0}) from items
  pub holds : P (map numbered items)

-- Overwritten bytes of a map.
use Rattle.std.specs.Prelude.{ℕ, ◌+◌, ◌≤◌, List, ◌++◌, length, take, drop, map, bytes_eq, if◌then◌else◌}
use Rattle.std.specs.BTreeMap.{is_at}
use Rattle.std.specs.Cmp.Lexicographic.{slice_cmp}
use Rattle.std.specs.Map.{lookup}
use Rattle.std.specs.Option.{IsSomeAnd}
use Rattle.std.specs.Ordering.{nat_cmp}
use Rattle.ebpf_items.specs.Maps.{MapView}

-- Bytes that overwrite others from an offset on.
abbrev pub overwritten : List ℕ → ℕ → List ℕ → List ℕ
overwritten contents start bytes =
    take start contents ++ (bytes ++ drop (start + length bytes) contents)

abbrev pub map_overwritten : ℕ → List ℕ → MapView → MapView
map_overwritten start bytes m = record m { contents = overwritten m.contents start bytes }

abbrev pub entry_overwritten : List ℕ → ℕ → List ℕ → List ℕ × MapView → List ℕ × MapView
entry_overwritten name start bytes m =
    if bytes_eq name m.0 then (m.0, map_overwritten start bytes m.1) else m

-- The maps after bytes of the map of a name were overwritten. Everything else stays.
unfoldable pub with_bytes : List (List ℕ × MapView) → List ℕ → ℕ → List ℕ → List (List ℕ × MapView)
with_bytes maps name start bytes = map (entry_overwritten name start bytes) maps

-- The map of the name exists, and has as many bytes from an offset on.
abbrev pub HasRange : List (List ℕ × MapView) → List ℕ → ℕ → ℕ → Type 0
HasRange maps name start size =
    IsSomeAnd (lookup (is_at (slice_cmp nat_cmp name)) maps) (λ m. start + size ≤ length m.contents)

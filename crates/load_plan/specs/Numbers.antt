-- The numbers of an object's maps, by name.
use Rattle.std.specs.Prelude.{ℕ, ◌&&◌, not, Bool, is_none, unwrap_or, List, Option, pos}
use Rattle.std.specs.BTreeMap.{is_at}
use Rattle.std.specs.Cmp.Lexicographic.{slice_cmp}
use Rattle.std.specs.List.{list_any}
use Rattle.std.specs.Map.{lookup}
use Rattle.std.specs.Ordering.{nat_cmp}
use Rattle.std.specs.Str.{bytes_eq}
use Rattle.ebpf_items.specs.Maps.{MapView}
use Rattle.settings.specs.Content.{SettingsContent}
use Rattle.slot_relocation.specs.Maps as slots

-- The number that is set for a map.
abbrev pub set_number : SettingsContent → List ℕ → Option ℕ
set_number settings name = lookup (is_at (slice_cmp nat_cmp name)) settings.maps

-- The number of a map, 0 if none is set.
abbrev pub number_of : SettingsContent → List ℕ → ℕ
number_of settings name = unwrap_or (set_number settings name) 0

-- Whether a number is set for each map.
abbrev pub are_numbered : SettingsContent → List (List ℕ × MapView) → Bool
are_numbered settings maps = not (list_any (λ e. is_none (set_number settings e.0)) maps)

-- Whether a map has this name and no number is set for it.
unfoldable pub is_unnumbered : SettingsContent → List ℕ → List ℕ × MapView → Bool
is_unnumbered settings name e = bytes_eq e.0 name && is_none (set_number settings name)

abbrev pub lacks_number : SettingsContent → List (List ℕ × MapView) → List ℕ → Bool
lacks_number settings maps name = list_any (is_unnumbered settings name) maps

-- A map with its name and number.
abbrev pub numbered : SettingsContent → List ℕ × MapView → slots.NumberedMap
numbered settings e = record { name = e.0; number = pos (number_of settings e.0); map = e.1 }

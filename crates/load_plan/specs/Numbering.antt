-- Numbers for the maps that have none: the least numbers that no map has, in order of name.
use Rattle.std.specs.Prelude.{◌≡◌, ◌==◌, ◌<◌, ℕ, Bool, true, false, List, [], ◌∷◌, map, Option, Some}
use Rattle.std.specs.BTreeMap.{insert_entry, is_at}
use Rattle.std.specs.Cmp.Lexicographic.{slice_cmp}
use Rattle.std.specs.List.{list_any}
use Rattle.std.specs.Map.{lookup}
use Rattle.std.specs.Option.{MatchOption, option_map_or}
use Rattle.std.specs.Ordering.{nat_cmp}
use Rattle.ebpf_items.specs.Maps.{MapView}
use Rattle.settings.specs.Content.{SettingsContent}

-- The names of maps.
abbrev pub names_of : List (List ℕ × MapView) → List (List ℕ)
names_of maps = map (λ m. m.0) maps

-- The number that is set for a map.
abbrev pub set_number : SettingsContent → List ℕ → Option ℕ
set_number settings name = lookup (is_at (slice_cmp nat_cmp name)) settings.maps

-- The settings with a number for one more map.
abbrev pub with_number : SettingsContent → List ℕ → ℕ → SettingsContent
with_number settings name number =
    record settings { maps = insert_entry (slice_cmp nat_cmp) settings.maps name number }

-- Whether one of these maps has this number.
abbrev pub is_taken : List (List ℕ) → SettingsContent → ℕ → Bool
is_taken names settings number =
    list_any (λ name. option_map_or (λ n. n == number) (set_number settings name) false) names

-- The least number that none of these maps has.
pub record IsLeastFree (names : List (List ℕ)) (settings : SettingsContent) (number : ℕ)
    : Type 0 where
  pub free : is_taken names settings number ≡ false
  pub least : (n : ℕ) → n < number → is_taken names settings n ≡ true

-- The settings after each map of `rest` without a number got the least number that no map has, one
-- map after the other. `names` are the names of all maps.
abbrev pub AreNumbered : List (List ℕ)
    → List (List ℕ)
    → SettingsContent
    → SettingsContent
    → Type 0
AreNumbered names [] before after = after ≡ before
AreNumbered names (name ∷ rest) before after =
    MatchOption (set_number before name)
    ((number : ℕ)
    × IsLeastFree names before number
    × AreNumbered names rest (with_number before name number) after)
    (λ _. AreNumbered names rest before after)

-- Each number that was set is still set, and so are the values of variables.
pub record IsKept (before after : SettingsContent) : Type 0 where
  pub numbers : (name : List ℕ)
      → (number : ℕ)
      → set_number before name ≡ Some number
      → set_number after name ≡ Some number
  pub values : after.globals ≡ before.globals

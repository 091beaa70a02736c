-- The writes of global variables, computed before any of them is made.
use Rattle.std.specs.Prelude.{ℕ, List, [], ◌∷◌, length}
use Rattle.std.specs.List.{flat_map}
use Rattle.std.specs.Option.{option_map_or}
use Rattle.ebpf_items.specs.Maps.{MapView}
use Rattle.elf64.specs.Symbols.{Symbol}
use Rattle.object_maps.specs.Overwritten.{HasRange}
use Rattle.settings.specs.ValuesContent.{GlobalContent}
use Rattle.global_data.specs.GlobalData.{Write, write_of}

abbrev pub write_list : List Symbol → List (List ℕ × MapView) → List ℕ × GlobalContent → List Write
write_list symbols maps global = option_map_or (λ w. w ∷ []) (write_of symbols maps global) []

abbrev pub writes_of : List Symbol
    → List (List ℕ × MapView)
    → List (List ℕ × GlobalContent)
    → List Write
writes_of symbols maps globals = flat_map (write_list symbols maps) globals

-- Each write lies in its map.
abbrev pub Fit : List (List ℕ × MapView) → List Write → Type 0
Fit maps [] = Unit
Fit maps (w ∷ ws) = HasRange maps w.map w.start (length w.bytes) × Fit maps ws

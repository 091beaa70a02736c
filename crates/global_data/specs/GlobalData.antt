-- The values of global variables, which are written into the maps of an object.
use Rattle.std.specs.Prelude.{◌≡◌, ℕ, ◌+◌, ◌==◌, nat_le, Bool, List, length, map, find, fold, Option, Some, None, option_and_then, unwrap_or, if◌then◌else◌}
use Rattle.std.specs.Option.{IsSomeAnd, option_map, option_map_or, option_or}
use Rattle.std.specs.String.{string_bytes}
use Rattle.ebpf_items.specs.Maps.{MapView}
use Rattle.ebpf_items.specs.declared.error.ParseError.{ParseError}
use Rattle.ebpf_items.specs.declared.error.ParseError.TheVariants as error
use Rattle.elf64.specs.Symbols.{Symbol, symbols_of}
use Rattle.object_file.specs.Symbols.{last_named}
use Rattle.object_maps.specs.Overwritten.{with_bytes}
use Rattle.settings.specs.ValuesContent.{GlobalContent}

-- The map of a section. Of several, the first by name counts.
abbrev pub map_of : List (List ℕ × MapView) → Option ℕ → Option (List ℕ × MapView)
map_of maps (Some index) = find (λ m. m.1.section_index == index) maps
map_of maps None = None

-- The name of a map and its size in bytes.
pub record Extent : Type 0 where
  pub name : List ℕ
  pub size : ℕ

abbrev pub extent_of : List ℕ × MapView → Extent
extent_of m = record { name = m.0; size = length m.1.contents }

abbrev pub extents : List (List ℕ × MapView) → List Extent
extents maps = map extent_of maps

-- ---- Writes

-- A write of bytes into the map with a name, from an offset on.
pub record Write : Type 0 where
  pub map : List ℕ
  pub start : ℕ
  pub bytes : List ℕ

-- The write of a global variable's value: into the map of its symbol's section, at the symbol's
-- address.
abbrev pub write_over : List (List ℕ × MapView) → List ℕ → Symbol → Option Write
write_over maps bytes s =
    option_map (λ m. record { map = m.0; start = s.address; bytes = bytes })
    (map_of maps s.section_index)

abbrev pub write_of : List Symbol → List (List ℕ × MapView) → List ℕ × GlobalContent → Option Write
write_of symbols maps global =
    option_and_then (write_over maps global.1.bytes) (last_named symbols global.0)

abbrev pub written : List (List ℕ × MapView) → Write → List (List ℕ × MapView)
written maps w = with_bytes maps w.map w.start w.bytes

abbrev pub patched_one : List Symbol
    → List (List ℕ × MapView)
    → List ℕ × GlobalContent
    → List (List ℕ × MapView)
patched_one symbols maps global = option_map_or (written maps) (write_of symbols maps global) maps

-- The maps after the values of all global variables were written in order.
unfoldable pub patched : List ℕ
    → List (List ℕ × MapView)
    → List (List ℕ × GlobalContent)
    → List (List ℕ × MapView)
patched file maps globals = fold (patched_one (symbols_of file)) maps globals

-- ---- Faults

-- A fault of a global variable: it must exist and no symbol has its name; its value has another
-- size than its symbol, or the symbol isn't inside its map; or no map is for the symbol's section,
-- which is 0 if the symbol has none.
pub data GlobalFault : Type 0 where
  NoSymbol : (name : List ℕ) → GlobalFault
  BadData : (name : List ℕ) (symbol_size data_size : ℕ) → GlobalFault
  NoMap : (section_index : ℕ) → GlobalFault

-- The fault of a global variable that an error reports, if any.
abbrev pub fault_of : ParseError → Option GlobalFault
fault_of (error.SymbolNotFound name) = Some (NoSymbol (string_bytes name))
fault_of (error.InvalidGlobalData name symbol_size data_size) =
    Some (BadData (string_bytes name) symbol_size data_size)
fault_of (error.MapNotFound index) = Some (NoMap index)
fault_of _ = None

-- Whether the bytes of a symbol lie in those of its map.
abbrev pub is_inside : Symbol → List ℕ × MapView → Bool
is_inside s m = nat_le (s.address + s.size) (length m.1.contents)

abbrev pub bad_data : List ℕ × GlobalContent → Symbol → GlobalFault
bad_data global s = BadData global.0 s.size (length global.1.bytes)

abbrev pub map_fault : List ℕ × GlobalContent
    → Symbol
    → Option (List ℕ × MapView)
    → Option GlobalFault
map_fault global s (Some m) = if is_inside s m then None else Some (bad_data global s)
map_fault global s None = Some (NoMap (unwrap_or s.section_index 0))

abbrev pub symbol_fault : List (List ℕ × MapView)
    → List ℕ × GlobalContent
    → Option Symbol
    → Option GlobalFault
symbol_fault maps global (Some s) =
    if length global.1.bytes == s.size
    then map_fault global s (map_of maps s.section_index)
    else Some (bad_data global s)
symbol_fault maps global None = if global.1.must_exist then Some (NoSymbol global.0) else None

abbrev pub global_fault : List Symbol
    → List (List ℕ × MapView)
    → List ℕ × GlobalContent
    → Option GlobalFault
global_fault symbols maps global = symbol_fault maps global (last_named symbols global.0)

-- The first fault so far, or the fault of the next global variable.
abbrev pub or_fault : List Symbol
    → List (List ℕ × MapView)
    → Option GlobalFault
    → List ℕ × GlobalContent
    → Option GlobalFault
or_fault symbols maps found global = option_or found (global_fault symbols maps global)

unfoldable pub first_fault : List ℕ
    → List (List ℕ × MapView)
    → List (List ℕ × GlobalContent)
    → Option GlobalFault
first_fault file maps globals = fold (or_fault (symbols_of file) maps) None globals

-- The error reports this fault.
abbrev pub Says : Option GlobalFault → ParseError → Type 0
Says fault e = IsSomeAnd fault (λ f. fault_of e ≡ Some f)

-- Maps of sections `maps`: each symbol except the section's own is a map, defined by its bytes. The
-- symbols are those of the section.
use Rattle.std.specs.Prelude.{ℕ, List, [], ◌∷◌, Bool, true, false, not, ◌&&◌, Option, Some, None, is_none, unwrap_or, option_and_then, if◌then◌else◌}
use Rattle.std.specs.List.{flat_map, list_any}
use Rattle.std.specs.Option.{option_map_or}
use Rattle.elf64.specs.Numbers.{bytes_at}
use Rattle.elf64.specs.Sections.{Section}
use Rattle.elf64.specs.Symbols.{Symbol}
use Rattle.elf64.specs.declared.kind.SymbolKind.{SymbolKind}
use Rattle.elf64.specs.declared.kind.SymbolKind.TheVariants as symbol
use Rattle.ebpf_items.specs.Maps.{MapView, MapWords}
use Rattle.object_maps.specs.LegacyWords.{legacy_map_words}
use Rattle.section_kinds.specs.declared.section_kind.EbpfSectionKind.TheVariants.{Maps}
use Rattle.object_maps.specs.Faults.{MapFault, BadDefinition, symbols_lack}

abbrev pub section_name : Section → List ℕ
section_name section = unwrap_or section.name []

abbrev pub symbol_name : Symbol → List ℕ
symbol_name s = unwrap_or s.name []

-- STT_SECTION
abbrev pub is_section_kind : SymbolKind → Bool
is_section_kind symbol.Section = true
is_section_kind _ = false

abbrev pub is_map_symbol : Symbol → Bool
is_map_symbol s = not (is_section_kind s.kind)

-- The words of a symbol's map, in st_size bytes of the section from st_value on. None where these
-- lie outside the section, or are too few.
abbrev pub symbol_words : Section → Symbol → Option MapWords
symbol_words section s =
    option_and_then legacy_map_words
    (option_and_then (λ bytes. bytes_at bytes s.address s.size) section.contents)

abbrev pub legacy_map_view : Section → Symbol → MapWords → MapView
legacy_map_view section s words = record {
  is_btf = false;
  words = words;
  inner = None;
  section_index = section.index;
  section_kind = Maps;
  symbol_index = Some s.index;
  contents = [];
}

-- The map of a symbol, if the symbol is a map.
abbrev pub legacy_map : Section → Symbol → List (List ℕ × MapView)
legacy_map section s =
    if is_map_symbol s
    then option_map_or (λ words. (symbol_name s, legacy_map_view section s words) ∷ [])
    (symbol_words section s) []
    else []

abbrev pub legacy_maps : List Symbol → Section → List (List ℕ × MapView)
legacy_maps symbols section = flat_map (legacy_map section) symbols

-- The faults of the maps.
abbrev pub legacy_map_faults : Section → Symbol → List MapFault
legacy_map_faults section s =
    if is_map_symbol s && is_none (symbol_words section s)
    then BadDefinition (symbol_name s) ∷ []
    else []

abbrev pub legacy_maps_faults : List Symbol → Section → List MapFault
legacy_maps_faults symbols section = flat_map (legacy_map_faults section) symbols

abbrev pub map_symbol_faults : List Symbol → Section → List MapFault
map_symbol_faults symbols section =
    symbols_lack (section_name section) (list_any is_map_symbol symbols)

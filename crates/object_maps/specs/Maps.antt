-- The maps of an object, by name.
use Rattle.std.specs.Prelude.{ℕ, List, [], ◌∷◌, ◌++◌, map, Option, Some, None}
use Rattle.std.specs.Borrow.{Bor}
use Rattle.std.specs.List.{flat_map}
use Rattle.btf_tables.specs.Tables.{Table}
use Rattle.elf64.specs.Sections.{Section}
use Rattle.elf64.specs.Symbols.{Symbol, symbols_of}
use Rattle.ebpf_items.specs.Maps.{MapView, map_view}
use Rattle.ebpf_items.specs.declared.error.ParseError.{ParseError}
use Rattle.ebpf_items.specs.declared.maps.Map.{Map}
use Rattle.object_file.specs.Kinds.{kind_of}
use Rattle.object_file.specs.Reading.{read_sections}
use Rattle.object_file.specs.Symbols.{symbols_in}
use Rattle.section_kinds.specs.declared.section_kind.EbpfSectionKind.{EbpfSectionKind}
use Rattle.section_kinds.specs.declared.section_kind.EbpfSectionKind.TheVariants as kind
use Rattle.object_maps.specs.BtfMaps.{any_symbol_faults, btf_maps, btf_maps_faults}
use Rattle.object_maps.specs.DataMaps.{data_map, data_map_faults}
use Rattle.object_maps.specs.Faults.{MapFault, NoTable, Says}
use Rattle.object_maps.specs.Found.{entered}
use Rattle.object_maps.specs.LegacyMaps.{legacy_maps, legacy_maps_faults, map_symbol_faults}

-- The entries of a map of maps, by the bytes of their names.
abbrev pub entry_shown : Bor (List ℕ) × Map → List ℕ × MapView
entry_shown e = (e.0.now, map_view e.1)

abbrev pub shown : List (Bor (List ℕ) × Map) → List (List ℕ × MapView)
shown entries = map entry_shown entries

-- The maps of a section that types define. None without a table.
abbrev pub typed_maps : Option Table → List Symbol → Section → List (List ℕ × MapView)
typed_maps (Some table) symbols section = btf_maps table symbols section
typed_maps None symbols section = []

abbrev pub typed_faults : Option Table → List Symbol → Section → List MapFault
typed_faults (Some table) symbols section = btf_maps_faults table symbols section
typed_faults None symbols section = NoTable ∷ []

-- The maps of a section with these symbols, by its kind.
abbrev pub kind_maps : Option Table
    → List Symbol
    → Section
    → EbpfSectionKind
    → List (List ℕ × MapView)
kind_maps table symbols section kind.Maps = legacy_maps symbols section
kind_maps table symbols section kind.BtfMaps = typed_maps table symbols section
kind_maps table symbols section kind.Data = data_map section
kind_maps table symbols section kind.Rodata = data_map section
kind_maps table symbols section kind.Bss = data_map section
kind_maps table symbols section _ = []

unfoldable pub section_maps : Option Table → List Symbol → Section → List (List ℕ × MapView)
section_maps table symbols section = kind_maps table symbols section (kind_of section)

-- The faults of the maps.
abbrev pub kind_faults : Option Table → List Symbol → Section → EbpfSectionKind → List MapFault
kind_faults table symbols section kind.Maps =
    map_symbol_faults symbols section ++ legacy_maps_faults symbols section
kind_faults table symbols section kind.BtfMaps =
    any_symbol_faults symbols section ++ typed_faults table symbols section
kind_faults table symbols section kind.Data = data_map_faults section
kind_faults table symbols section kind.Rodata = data_map_faults section
kind_faults table symbols section kind.Bss = data_map_faults section
kind_faults table symbols section _ = []

unfoldable pub section_faults : Option Table → List Symbol → Section → List MapFault
section_faults table symbols section = kind_faults table symbols section (kind_of section)

-- The maps of a section of a file, and their faults.
abbrev pub section_maps_in : List ℕ → Option Table → Section → List (List ℕ × MapView)
section_maps_in file table section =
    section_maps table (symbols_in (symbols_of file) section.index) section

abbrev pub section_faults_in : List ℕ → Option Table → Section → List MapFault
section_faults_in file table section =
    section_faults table (symbols_in (symbols_of file) section.index) section

-- The maps of a file, ordered by section, and then by symbol or entry.
abbrev pub found_maps : List ℕ → Option Table → List (List ℕ × MapView)
found_maps file table = flat_map (section_maps_in file table) (read_sections file)

-- The maps by name. Of several with one name, the last one counts.
abbrev pub maps_of : List ℕ → Option Table → List (List ℕ × MapView)
maps_of file table = entered [] (found_maps file table)

-- All faults of the maps.
abbrev pub maps_faults : List ℕ → Option Table → List MapFault
maps_faults file table = flat_map (section_faults_in file table) (read_sections file)

abbrev pub HasMapsFault : List ℕ → Option Table → ParseError → Type 0
HasMapsFault file table e = Says (maps_faults file table) e

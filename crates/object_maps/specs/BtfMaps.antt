-- Maps of sections `.maps`: each variable in the sections of this name of the type table is a map.
-- The symbols are those of the section.
use Rattle.std.specs.Prelude.{ℕ, List, [], ◌∷◌, ◌++◌, map, length, ◌==◌, not, Option, Result, Ok, Err, is_none, if◌then◌else◌}
use Rattle.std.specs.List.{flat_map}
use Rattle.std.specs.Option.{option_map_or}
use Rattle.btf_records.specs.Fields.{entries_of}
use Rattle.btf_records.specs.declared.error.BtfError.{BtfError}
use Rattle.btf_records.specs.declared.item.DataSecEntry.{DataSecEntry}
use Rattle.btf_records.specs.declared.types.BtfType.{BtfType}
use Rattle.btf_tables.specs.Tables.{Table}
use Rattle.elf64.specs.Sections.{Section}
use Rattle.elf64.specs.Symbols.{Symbol}
use Rattle.ebpf_items.specs.Maps.{MapView, btf_map_view}
use Rattle.object_maps.specs.Definitions.{defined, map_variable, errors}
use Rattle.object_file.specs.Symbols.{last_named}
use Rattle.object_maps.specs.DataSections.{is_section_named, section_name_faults}
use Rattle.object_maps.specs.Faults.{MapFault, NoSymbol, struct_fault, symbols_lack, types_fault}
use Rattle.object_maps.specs.LegacyMaps.{section_name}

-- The map of a variable, which has the variable's name.
abbrev pub variable_view : Table → Section → ℕ → Symbol → MapView
variable_view table section id s =
    btf_map_view (defined table id).words (defined table id).inner section.index s.index

abbrev pub variable_map : Table
    → Section
    → List Symbol
    → Result (List ℕ × ℕ) BtfError
    → List (List ℕ × MapView)
variable_map table section symbols (Ok v) =
    option_map_or (λ s. (v.0, variable_view table section v.1 s) ∷ []) (last_named symbols v.0) []
variable_map table section symbols (Err e) = []

abbrev pub entry_map : Table → Section → List Symbol → DataSecEntry → List (List ℕ × MapView)
entry_map table section symbols entry =
    variable_map table section symbols (map_variable table entry.btf_type)

-- The maps of the variables in a section of the table.
abbrev pub entries_maps : Table → Section → List Symbol → BtfType → List (List ℕ × MapView)
entries_maps table section symbols t = flat_map (entry_map table section symbols) (entries_of t)

-- Those of a record of the table, which is none unless it is a section of the section's name.
abbrev pub record_maps : Table → Section → List Symbol → BtfType → List (List ℕ × MapView)
record_maps table section symbols t =
    if is_section_named table (section_name section) t
    then entries_maps table section symbols t
    else []

abbrev pub btf_maps : Table → List Symbol → Section → List (List ℕ × MapView)
btf_maps table symbols section = flat_map (record_maps table section symbols) table.types

-- The faults of the maps.
abbrev pub symbol_faults : List ℕ → Option Symbol → List MapFault
symbol_faults name found = if is_none found then NoSymbol name ∷ [] else []

abbrev pub variable_faults : Table → List Symbol → Result (List ℕ × ℕ) BtfError → List MapFault
variable_faults table symbols (Ok v) =
    symbol_faults v.0 (last_named symbols v.0) ++ map (struct_fault v.0) (errors table v.1)
variable_faults table symbols (Err e) = types_fault e ∷ []

abbrev pub entry_faults : Table → List Symbol → DataSecEntry → List MapFault
entry_faults table symbols entry = variable_faults table symbols (map_variable table entry.btf_type)

abbrev pub entries_faults : Table → List Symbol → BtfType → List MapFault
entries_faults table symbols t = flat_map (entry_faults table symbols) (entries_of t)

abbrev pub named_faults : Table → Section → List Symbol → BtfType → List MapFault
named_faults table section symbols t =
    if is_section_named table (section_name section) t then entries_faults table symbols t else []

-- The name of each section of the table must be read.
abbrev pub record_faults : Table → Section → List Symbol → BtfType → List MapFault
record_faults table section symbols t =
    section_name_faults table t ++ named_faults table section symbols t

abbrev pub btf_maps_faults : Table → List Symbol → Section → List MapFault
btf_maps_faults table symbols section = flat_map (record_faults table section symbols) table.types

abbrev pub any_symbol_faults : List Symbol → Section → List MapFault
any_symbol_faults symbols section =
    symbols_lack (section_name section) (not (length symbols == 0))

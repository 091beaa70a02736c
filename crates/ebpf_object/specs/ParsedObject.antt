-- The parsed object.
use Rattle.std.specs.Prelude.{◌≡◌, ℕ, List, Option}
use Rattle.std.specs.Option.{option_map, option_map_or}
use Rattle.btf_ext.specs.Extensions.{Extension}
use Rattle.btf_tables.specs.Tables.{Table}
use Rattle.ebpf_items.specs.Maps.{MapView}
use Rattle.elf64.specs.Symbols.{symbols_of}
use Rattle.object_externs.specs.Externs.{ExternsContent, externs_of}
use Rattle.object_externs.specs.Types.{HoldsTypes, completed, no_externs}
use Rattle.object_maps.specs.Maps.{maps_of}
use Rattle.object_parse.specs.Functions.{functions_of, programs_of}
use Rattle.object_parts.specs.Content.{FunctionContent, ProgramContent}
use Rattle.object_contents.specs.Types.{HoldsRecords}

-- An object: its file, with the sections, symbols and relocations; its types and the records of
-- `.BTF.ext`; maps, programs and externs by name; and functions by section index and address,
-- sorted.
pub record ObjectContent : Type 0 where
  pub file : List ℕ
  pub types : Option Table
  pub extension : Option Extension
  pub maps : List (List ℕ × MapView)
  pub programs : List (List ℕ × ProgramContent)
  pub functions : List ((ℕ × ℕ) × FunctionContent)
  pub externs : ExternsContent

-- The object of a file. Its types are those of the section `.BTF`, completed. The records of
-- `.BTF.ext`, the functions and the externs are read with the types of the file, and the maps with
-- the completed types.
pub record IsParsed (file : List ℕ) (object : ObjectContent) : Type 0 where
  pub table : Option Table
  pub holds : HoldsTypes file table
  pub same_file : object.file ≡ file
  pub types : object.types ≡ option_map completed table
  pub extension : HoldsRecords file table object.extension
  pub maps : object.maps ≡ maps_of file object.types
  pub programs : object.programs ≡ programs_of file
  pub functions : object.functions ≡ functions_of file object.extension
  pub externs : object.externs ≡ option_map_or (externs_of (symbols_of file)) table no_externs

-- What sections of a file hold.
use Rattle.std.specs.Prelude.{◌≡◌, ℕ, List, [], All, false, flat_map, fold, Option}
use Rattle.std.specs.List.{list_any}
use Rattle.btf_ext.specs.Extensions.{Extension}
use Rattle.btf_tables.specs.Tables.{Table}
use Rattle.elf64.specs.Sections.{Section}
use Rattle.elf64.specs.Symbols.{symbols_of}
use Rattle.object_file.specs.License.{license_of}
use Rattle.object_file.specs.Reading.{is_unreadable}
use Rattle.object_file.specs.Relocations.{has_relocation_without_symbol}
use Rattle.object_file.specs.Version.{version_of}
use Rattle.object_maps.specs.Found.{entered}
use Rattle.object_maps.specs.Maps.{section_faults_in, section_maps_in}
use Rattle.object_parse.specs.Faults.{HasSoundCode}
use Rattle.object_parse.specs.Functions.{with_functions, with_section_programs}
use Rattle.object_parts.specs.Content.{HaveFunctions}
use Rattle.object_contents.specs.declared.contents.Contents.{Contents}

-- The sections are read, with their programs, functions and maps, and none of them has a fault.
pub record AreContentsOf (file : List ℕ) (table : Option Table) (extension : Option Extension)
    (sections : List Section) (contents : Contents) : Type 0 where
  pub read : contents.sections.items ≡ sections
  pub readable : list_any is_unreadable sections ≡ false
  pub related : list_any (has_relocation_without_symbol file) sections ≡ false
  pub programs : contents.code.programs
      ≡ fold (with_section_programs (license_of file) (version_of file) (symbols_of file)) [] sections
  pub functions : contents.code.functions
      ≡ fold (with_functions extension (symbols_of file)) [] sections
  pub complete : HaveFunctions contents.code.programs contents.code.functions
  pub sound : All (HasSoundCode (symbols_of file)) sections
  pub maps : contents.maps ≡ entered [] (flat_map (section_maps_in file table) sections)
  pub faultless : flat_map (section_faults_in file table) sections ≡ []

-- The faults of a file: those of the file itself, of its types, and of its maps, functions and
-- externs.
use Rattle.std.specs.Option.{option_map}
use Rattle.std.specs.Prelude.{◌≡◌, ℕ, ◌⊎◌, Contains, codes, false, List, Option, Some}
use Rattle.btf_records.specs.declared.error.BtfError.{BtfError}
use Rattle.btf_tables.specs.Tables.{Table}
use Rattle.ebpf_items.specs.declared.error.ParseError.{ParseError}
use Rattle.elf64.specs.Sections.{Section}
use Rattle.elf64.specs.Symbols.{symbols_of}
use Rattle.object_externs.specs.Faults.{ExternsFault}
use Rattle.object_externs.specs.Types.{HoldsTypes, SaysOfTypes, TypesFault, completed}
use Rattle.object_file.specs.Faults.{HasFileFault, HasSoundFirst, IsOpenable}
use Rattle.object_file.specs.Reading.{is_unreadable, read_sections}
use Rattle.object_maps.specs.Faults.{Says}
use Rattle.object_maps.specs.Maps.{section_faults_in}
use Rattle.object_parse.specs.Faults as code
use Rattle.object_contents.specs.Types.{RecordsFault}

-- A fault of the table in the file's section `.BTF`.
abbrev pub HasTypesFault : List ℕ → ParseError → Type 0
HasTypesFault file e = SaysOfTypes (TypesFault file) e

-- A fault of the records of `.BTF.ext` or of the externs of a file with this table.
abbrev pub TableFaultOf : List ℕ → Table → BtfError → Type 0
TableFaultOf file table e = RecordsFault file table e ⊎ ExternsFault (symbols_of file) table e

abbrev pub HasTableFault : List ℕ → Table → ParseError → Type 0
HasTableFault file table e = HoldsTypes file (Some table) × SaysOfTypes (TableFaultOf file table) e

-- A fault of the types, of the records of `.BTF.ext` or of the externs of a file.
abbrev pub HasTypesOrExternsFault : List ℕ → ParseError → Type 0
HasTypesOrExternsFault file e =
    HasTypesFault file e ⊎ ((table : Table) × HasTableFault file table e)

-- A fault of a section that can be read, of its functions or of its maps, for the completed types.
pub record HasSectionFault (file : List ℕ) (types : Option Table) (e : ParseError) : Type 0 where
  pub section : Section
  pub is_read : Contains (read_sections file) section
  pub readable : is_unreadable section ≡ false
  pub fault : code.HasSectionFault (symbols_of file) section e
      ⊎ Says (section_faults_in file types section) e

-- A fault of the contents of a file whose types can be read.
pub record HasContentsFault (file : List ℕ) (e : ParseError) : Type 0 where
  pub table : Option Table
  pub first : HasSoundFirst file (codes ".BTF")
  pub holds : HoldsTypes file table
  pub fault : HasSectionFault file (option_map completed table) e

-- A fault of a file's types, records of `.BTF.ext`, externs, maps or functions.
abbrev pub HasObjectFault : List ℕ → ParseError → Type 0
HasObjectFault file e = HasTypesOrExternsFault file e ⊎ HasContentsFault file e

-- A fault of an ELF file, or of what it holds.
abbrev pub HasFileOrObjectFault : List ℕ → ParseError → Type 0
HasFileOrObjectFault file e = HasFileFault file e ⊎ HasObjectFault file e

-- A fault of a file, or of what a file holds whose license, version and names of symbols have no
-- fault. A part of it has its faults whether or not other sections can be read. Out of memory is no
-- fault.
abbrev pub HasFault : List ℕ → ParseError → Type 0
HasFault file e = HasFileFault file e ⊎ (IsOpenable file × HasObjectFault file e)

-- No fault occurs.
pub record IsFaultless (file : List ℕ) : Type 0 where
  pub none : (e : ParseError) → HasFault file e → ⊥

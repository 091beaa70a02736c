-- The types of an object, the records of its section `.BTF.ext`, and its externs.
use Rattle.std.specs.Prelude.{◌≡◌, ℕ, IfSome, List, codes, ⊤, Option, Some, None}
use Rattle.std.specs.Option.{IsSomeAnd, option_map, option_map_or}
use Rattle.btf_ext.specs.Extensions.{Extension, HoldsExtension}
use Rattle.btf_ext.specs.Faults.{ExtensionFault}
use Rattle.btf_records.specs.declared.error.BtfError.{BtfError}
use Rattle.btf_records.specs.declared.words.Endianness.{Endianness}
use Rattle.btf_storage.specs.Faultless.{IsFaultless}
use Rattle.btf_tables.specs.Tables.{Table}
use Rattle.elf64.specs.Symbols.{symbols_of}
use Rattle.object_externs.specs.Externs.{ExternsContent, externs_of}
use Rattle.object_externs.specs.Faults.{ExternsFault}
use Rattle.object_externs.specs.Types.{HoldsTypes, completed, no_externs}
use Rattle.object_file.specs.ByteOrders.{file_endianness}
use Rattle.object_file.specs.Reading.{contents_named}

-- The records of an extension are those of the bytes of its section. Without a table or without the
-- section there are none.
abbrev pub HoldsRecordsIn : Endianness → Option Table → Option (List ℕ) → Option Extension → Type 0
HoldsRecordsIn order (Some table) (Some bytes) (Some extension) =
    HoldsExtension order table.strings bytes extension
HoldsRecordsIn order (Some table) None None = ⊤
HoldsRecordsIn order None _ None = ⊤
HoldsRecordsIn order _ _ _ = ⊥

abbrev pub HoldsRecords : List ℕ → Option Table → Option Extension → Type 0
HoldsRecords file table extension =
    HoldsRecordsIn (file_endianness file) table (contents_named file (codes ".BTF.ext")) extension

-- A fault of the section `.BTF.ext` of a file with a table.
abbrev pub RecordsFault : List ℕ → Table → BtfError → Type 0
RecordsFault file table e =
    IsSomeAnd (contents_named file (codes ".BTF.ext")) (λ bytes.
    ExtensionFault (file_endianness file) table.strings bytes e)

-- The types of a file: the table of the section `.BTF`, completed, the records of `.BTF.ext`, and the
-- externs. None of them has a fault.
pub record AreTypesOf (file : List ℕ) (types : Option Table) (extension : Option Extension)
    (externs : ExternsContent) : Type 0 where
  pub table : Option Table
  pub holds : HoldsTypes file table
  pub completed : types ≡ option_map completed table
  pub records : HoldsRecords file table extension
  pub declared : externs ≡ option_map_or (externs_of (symbols_of file)) table no_externs
  pub sound : IfSome table (λ t. IsFaultless (ExternsFault (symbols_of file) t))

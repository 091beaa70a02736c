-- An ELF file whose license, version and names of symbols have no fault.
use Rattle.std.specs.Prelude.{◌≡◌, ℕ, List, Option}
use Rattle.elf64.specs.Symbols.{symbols_of}
use Rattle.object_file.specs.Faults.{IsOpenable}
use Rattle.object_file.specs.License.{license_of, HasNoNul}
use Rattle.object_file.specs.RelocationTable.{AreRelocationsOf}
use Rattle.object_file.specs.SymbolTable.{AreSymbolsOf}
use Rattle.object_file.specs.Version.{version_of, IsKnownVersion}
use Rattle.object_file.specs.declared.relocations.RelocationTable.{RelocationTable}
use Rattle.object_file.specs.declared.symbols.SymbolTable.{SymbolTable}

pub record IsOpenedFile (file bytes : List ℕ) (symbols : SymbolTable)
    (relocations : RelocationTable) (license : List ℕ) (version : Option ℕ) : Type 0 where
  pub same : bytes ≡ file
  pub openable : IsOpenable file
  pub by_section : AreSymbolsOf symbols (symbols_of file)
  pub relocated : AreRelocationsOf relocations file
  pub licensed : license ≡ license_of file
  pub text : HasNoNul license
  pub made_for : version ≡ version_of file
  pub known : IsKnownVersion version

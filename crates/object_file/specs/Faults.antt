-- The faults of a file's sections, symbols, relocations, license and version.
use Rattle.std.specs.Prelude.{◌≡◌, ◌≢◌, ℕ, List, [], ◌∷◌, codes, length, true, false, IsSomeAnd, IfSome}
use Rattle.std.specs.List.{list_any}
use Rattle.btf_records.specs.declared.error.BtfError.TheVariants as btf
use Rattle.elf64.specs.Faults as elf
use Rattle.elf64.specs.Sections.{Section, section_named}
use Rattle.elf64.specs.Symbols.{symbols_of}
use Rattle.ebpf_items.specs.declared.error.ParseError.{ParseError}
use Rattle.ebpf_items.specs.declared.error.ParseError.TheVariants as error
use Rattle.object_file.specs.License.{license_bytes, IsLicense, IsInvalidLicense, LacksNul}
use Rattle.object_file.specs.Reading.{read_sections, HasUnreadable}
use Rattle.object_file.specs.Relocations.{has_relocation_without_symbol}
use Rattle.object_file.specs.Symbols.{is_unnamed}
use Rattle.object_file.specs.Version.{version_bytes}

-- A fault of a section of a list: of its name, its bytes or its relocations.
abbrev pub HasSectionsFault : List ℕ → List Section → ParseError → Type 0
HasSectionsFault file sections (error.SectionError index e) =
    HasUnreadable sections (error.SectionError index e)
HasSectionsFault file sections error.UnsupportedRelocationTarget =
    list_any (has_relocation_without_symbol file) sections ≡ true
HasSectionsFault file sections _ = ⊥

-- A fault of the first section with a name: of its bytes or its relocations.
abbrev pub HasFirstFault : List ℕ → List ℕ → ParseError → Type 0
HasFirstFault file name e =
    IsSomeAnd (section_named file name) (λ s. HasSectionsFault file (s ∷ []) e)

-- The first section with a name, if there is one, has no such fault.
pub record HasSoundFirst (file name : List ℕ) : Type 0 where
  pub none : (e : ParseError) → HasFirstFault file name e → ⊥

-- A fault in the contents of an ELF file that can be read.
abbrev pub HasHeldFault : List ℕ → ParseError → Type 0
HasHeldFault file (error.SectionError index e) =
    HasUnreadable (read_sections file) (error.SectionError index e)
HasHeldFault file error.UnsupportedRelocationTarget =
    list_any (has_relocation_without_symbol file) (read_sections file) ≡ true
HasHeldFault file (error.InvalidLicense kept) =
    IsSomeAnd (license_bytes file) (λ bytes. (kept.items ≡ bytes) × IsInvalidLicense bytes)
HasHeldFault file (error.MissingLicenseNullTerminator kept) =
    IsSomeAnd (license_bytes file) (λ bytes. (kept.items ≡ bytes) × LacksNul bytes)
HasHeldFault file (error.InvalidKernelVersion kept) =
    IsSomeAnd (version_bytes file) (λ bytes. (kept.items ≡ bytes) × (length bytes ≢ 4))
HasHeldFault file (error.BtfError btf.InvalidSymbolName) =
    list_any is_unnamed (symbols_of file) ≡ true
HasHeldFault file _ = ⊥

-- A fault of a file. Out of memory isn't a fault of the file.
abbrev pub HasFileFault : List ℕ → ParseError → Type 0
HasFileFault file (error.ElfError e) = elf.HasFault file e
HasFileFault file e = elf.IsFaultless file × HasHeldFault file e

-- The license is sound if the file has one.
abbrev pub HasSoundLicense : List ℕ → Type 0
HasSoundLicense file = IfSome (license_bytes file) IsLicense

-- The version has four bytes if the file has one.
abbrev pub HasSoundVersion : List ℕ → Type 0
HasSoundVersion file = IfSome (version_bytes file) (λ bytes. length bytes ≡ 4)

-- The license, the version and the names of the symbols of an ELF file have no fault.
pub record IsOpenable (file : List ℕ) : Type 0 where
  pub faultless : elf.IsFaultless file
  pub first_license : HasSoundFirst file (codes "license")
  pub license : HasSoundLicense file
  pub first_version : HasSoundFirst file (codes "version")
  pub version : HasSoundVersion file
  pub named : list_any is_unnamed (symbols_of file) ≡ false

-- No fault of the file holds.
pub record IsFileFaultless (file : List ℕ) : Type 0 where
  pub none : (e : ParseError) → HasFileFault file e → ⊥

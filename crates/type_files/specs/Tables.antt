-- Which bytes of a file are a table of types.
use Rattle.std.specs.Prelude.{◌≡◌, ◌≢◌, ◌⊎◌, ℕ, nat_eq, nat_le, Bool, true, false, not, ◌&&◌, List, [], ◌∷◌, Option, None, Some, codes, length, option_and_then, if◌then◌else◌}
use Rattle.std.specs.Option.{option_map, option_map_or}
use Rattle.std.specs.List.{starts_with}
use Rattle.elf64.specs.Faults.{HasFault, IsFaultless}
use Rattle.elf64.specs.Headers.{order_of}
use Rattle.elf64.specs.Sections.{Section, section_named}
use Rattle.elf64.specs.declared.order.ByteOrder.{ByteOrder}
use Rattle.elf64.specs.declared.order.ByteOrder.TheVariants as elf
use Rattle.btf_records.specs.declared.words.Endianness.{Endianness}
use Rattle.btf_records.specs.declared.words.Endianness.TheVariants.{Big, Little}
use Rattle.btf_tables.specs.Tables.{header_len, string_bytes_in, strings_end}
use Rattle.type_files.specs.Starts.{begins_as_types, start_of}
use Rattle.type_files.specs.declared.fault.TypesFault.{TypesFault}
use Rattle.type_files.specs.declared.fault.TypesFault.TheVariants as faults
use Rattle.type_files.specs.declared.starts.FileStart.TheVariants as starts
use Rattle.type_files.specs.declared.tables.FoundTypes.{FoundTypes}
use Rattle.type_files.specs.declared.tables.FoundTypes.TheVariants as found

-- The strings of a table, if its header and they lie in it.
abbrev pub strings_in : Endianness → List ℕ → Option (List ℕ)
strings_in order table =
    if nat_le header_len (length table) && nat_le (strings_end order table) (length table)
    then Some (string_bytes_in order table)
    else None

-- Whether a table is one of a module, whose ids and offsets go on those of the kernel's table. The
-- strings of a whole table begin with the empty string ("BTF Type and String Encoding"). Those of a
-- module don't: the empty string is the kernel's.
abbrev pub is_split : Endianness → List ℕ → Bool
is_split order table =
    option_map_or (λ strings. not (starts_with nat_eq strings (0 ∷ []))) (strings_in order table) false

abbrev pub types_order : ByteOrder → Endianness
types_order elf.Little = Little
types_order elf.Big = Big

-- The first section named `.BTF`, and its contents.
abbrev pub types_section : List ℕ → Option Section
types_section file = section_named file (codes ".BTF")

abbrev pub IsSectionTable : List ℕ → List ℕ → Type 0
IsSectionTable file table = option_and_then (λ s. s.contents) (types_section file) ≡ Some table

abbrev pub IsSectionFault : List ℕ → TypesFault → Type 0
IsSectionFault file faults.NoSection = types_section file ≡ None
IsSectionFault file faults.SectionData =
    (types_section file ≢ None) × (option_and_then (λ s. s.contents) (types_section file) ≡ None)
IsSectionFault file _ = ⊥

-- An ELF64 file without a fault.
pub record IsElf64 (file : List ℕ) : Type 0 where
  pub start : start_of file ≡ starts.Elf
  pub faultless : IsFaultless file

-- An ELF64 file in a byte order whose section `.BTF` has these contents.
pub record HoldsSection (file : List ℕ) (order : Endianness) (table : List ℕ) : Type 0 where
  pub elf : IsElf64 file
  pub orders : option_map types_order (order_of file) ≡ Some order
  pub contents : IsSectionTable file table

-- The types in a file.
abbrev pub IsFound : List ℕ → FoundTypes → Type 0
IsFound file (found.Section table order) =
    HoldsSection file order table.now
    × (begins_as_types order table.now ≡ true)
    × (is_split order table.now ≡ false)
IsFound file (found.File table order) =
    (table.now ≡ file) × (start_of file ≡ starts.Types order) × (is_split order file ≡ false)
IsFound file (found.Unmarked table) = (table.now ≡ file) × (start_of file ≡ starts.Unknown)

-- A fact of the section `.BTF` of an ELF64 file.
pub record OnSection (file : List ℕ) (P : Endianness → List ℕ → Type 0) : Type 0 where
  pub order : Endianness
  pub table : List ℕ
  pub holds : HoldsSection file order table
  pub is : P order table

-- A file that begins with the magic of types, and holds those of a module.
pub record IsSplitFile (file : List ℕ) : Type 0 where
  pub order : Endianness
  pub start : start_of file ≡ starts.Types order
  pub is : is_split order file ≡ true

-- Why a file holds no types of a kernel.
abbrev pub HasTypesFault : List ℕ → TypesFault → Type 0
HasTypesFault file (faults.Elf error) = (start_of file ≡ starts.Elf) × HasFault file error
HasTypesFault file faults.NoSection = IsElf64 file × IsSectionFault file faults.NoSection
HasTypesFault file faults.SectionData = IsElf64 file × IsSectionFault file faults.SectionData
HasTypesFault file faults.SectionMagic =
    OnSection file (λ order table. begins_as_types order table ≡ false)
HasTypesFault file faults.Split =
    OnSection file (λ order table. is_split order table ≡ true) ⊎ IsSplitFile file
HasTypesFault file (faults.Format format) = start_of file ≡ starts.Format format

-- The faults of a file, as conditions on its fields.
use Rattle.std.specs.Prelude.{◌≡◌, ◌≢◌, ℕ, ◌/◌, ◌%◌, ◌<◌, ◌⊎◌, List, length, None, IsSomeAnd, true, false}
use Rattle.elf64.specs.declared.order.ByteOrder.{ByteOrder}
use Rattle.elf64.specs.declared.header.FileHeader.{FileHeader}
use Rattle.elf64.specs.declared.header.SectionHeader.{SectionHeader}
use Rattle.elf64.specs.declared.error.ElfError.{ElfError}
use Rattle.elf64.specs.declared.error.ElfError.TheVariants.{NotElf, UnsupportedClass, UnsupportedOrder, BadSectionTable, BadSymbolTable, BadRelocationTable, Name, SectionData}
use Rattle.elf64.specs.Numbers.{bytes_at}
use Rattle.elf64.specs.Headers.{is_elf, is_elf64, order_of, header_of, table_in, header_count, section_header, section_at}
use Rattle.elf64.specs.Sections.{section_names_in}
use Rattle.elf64.specs.Symbols.{symbol_entry, symbol_table_index, symbol_names_in}
use Rattle.elf64.specs.Relocations.{is_relocation_table, entry_size}

-- The section header table has headers of another size, has no header, lies past the end of the
-- file, or names no section that holds the names.
abbrev pub IsBadSectionTable : List ℕ → FileHeader → Type 0
IsBadSectionTable bytes header =
    (header.section_headers_offset ≢ 0)
    × ((header.section_header_size ≢ 64)
    ⊎ (header.section_count ≡ 0)
    ⊎ (table_in bytes header ≡ None)
    ⊎ IsSomeAnd (table_in bytes header) (λ table. section_names_in bytes header table ≡ None))

-- A symbol other than symbol 0 whose st_shndx is SHN_XINDEX.
pub record HasExtendedIndex (order : ByteOrder) (entries : List ℕ) : Type 0 where
  pub index : ℕ
  pub given : 0 < index
  pub within : index < length entries / 24
  pub extended : (symbol_entry order entries index).section ≡ 0xffff

-- The entries lie past the end of the file or are cut off, the names aren't in the file, or a
-- symbol has an extended section index.
abbrev pub IsBadSymbolTable : List ℕ → ByteOrder → List ℕ → SectionHeader → Type 0
IsBadSymbolTable bytes order table header =
    (bytes_at bytes header.offset header.size ≡ None)
    ⊎ (header.size % 24 ≢ 0)
    ⊎ (symbol_names_in bytes order table header ≡ None)
    ⊎ IsSomeAnd (bytes_at bytes header.offset header.size) (HasExtendedIndex order)

-- A relocation section of the symbol table at an index that has no target section, or entries that
-- lie past the end of the file or are cut off.
pub record IsBadRelocationTable (bytes : List ℕ) (order : ByteOrder) (table : List ℕ)
    (symbol_table : ℕ) (header : SectionHeader) : Type 0 where
  pub belongs : is_relocation_table symbol_table header ≡ true
  pub bad : (section_at order table header.info ≡ None)
      ⊎ (bytes_at bytes header.offset header.size ≡ None)
      ⊎ (header.size % entry_size header ≢ 0)

-- A malformed relocation section of the symbol table at an index.
pub record HasBadRelocationTable (bytes : List ℕ) (order : ByteOrder) (table : List ℕ)
    (symbol_table : ℕ) : Type 0 where
  pub index : ℕ
  pub given : 0 < index
  pub within : index < header_count table
  pub bad : IsBadRelocationTable bytes order table symbol_table (section_header order table index)

-- A condition on the section header table of a file.
abbrev pub OnTable : List ℕ → (ByteOrder → List ℕ → Type 0) → Type 0
OnTable bytes P =
    IsSomeAnd (header_of bytes) (λ header. IsSomeAnd (table_in bytes header) (P header.order))

-- A condition on the first symbol table of a file, by its index.
abbrev pub OnSymbolTable : List ℕ → (ByteOrder → List ℕ → ℕ → Type 0) → Type 0
OnSymbolTable bytes P =
    OnTable bytes (λ order table. IsSomeAnd (symbol_table_index order table) (P order table))

-- A fault of the file. A fault of a section's bytes or of a name occurs only where it is read.
abbrev pub HasFault : List ℕ → ElfError → Type 0
HasFault bytes NotElf = is_elf bytes ≡ false
HasFault bytes UnsupportedClass = (is_elf bytes ≡ true) × (is_elf64 bytes ≡ false)
HasFault bytes UnsupportedOrder = (is_elf64 bytes ≡ true) × (order_of bytes ≡ None)
HasFault bytes BadSectionTable = IsSomeAnd (header_of bytes) (IsBadSectionTable bytes)
HasFault bytes BadSymbolTable =
    OnSymbolTable bytes (λ order table index.
    IsBadSymbolTable bytes order table (section_header order table index))
HasFault bytes BadRelocationTable = OnSymbolTable bytes (HasBadRelocationTable bytes)
HasFault bytes SectionData = ⊥
HasFault bytes Name = ⊥

-- No fault occurs.
pub record IsFaultless (bytes : List ℕ) : Type 0 where
  pub none : (e : ElfError) → HasFault bytes e → ⊥

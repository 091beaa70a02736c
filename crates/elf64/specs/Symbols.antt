-- The symbols of a file: the entries of its first symbol table (ELF-64 object file format, Symbol
-- Table).
use Rattle.std.specs.Prelude.{◌≡◌, ◌≤◌, ◌<◌, IfSome, ℕ, ◌+◌, ◌-◌, ◌*◌, ◌/◌, ◌%◌, List, [], length, map, find, slice_index, nat_lt, ◌==◌, ◌&&◌, ◌||◌, not, Bool, if◌then◌else◌, Option, Some, None, is_some, unwrap_or, option_and_then}
use Rattle.std.specs.Option.{option_map}
use Rattle.std.specs.List.{range_with_len}
use Rattle.std.specs.Int.{w16, w32, w64}
use Rattle.elf64.specs.declared.order.ByteOrder.{ByteOrder}
use Rattle.elf64.specs.declared.header.SectionHeader.{SectionHeader}
use Rattle.elf64.specs.declared.header.SymbolEntry.{SymbolEntry}
use Rattle.elf64.specs.declared.kind.SymbolKind.{SymbolKind}
use Rattle.elf64.specs.declared.kind.SymbolKind.TheVariants.{Unknown, Text, Data, Section, File, Tls}
use Rattle.elf64.specs.Numbers.{number_at, bytes_at}
use Rattle.elf64.specs.Headers.{header_of, table_in, section_header, section_at, section_indexes}
use Rattle.elf64.specs.Sections.{file_bytes_in}
use Rattle.elf64.specs.Names.{name_in}

-- A symbol, with its name if it can be read, the offset of its name in the symbols' names, and its
-- section if it has one.
pub record Symbol : Type 0 where
  pub index : ℕ
  pub name_offset : ℕ
  pub name : Option (List ℕ)
  pub section_index : Option ℕ
  pub address : ℕ
  pub size : ℕ
  pub kind : SymbolKind
  pub is_definition : Bool
  pub is_global : Bool
  pub is_weak : Bool

-- The fields of the symbol at an index of a symbol table's bytes.
unfoldable pub symbol_entry : ByteOrder → List ℕ → ℕ → SymbolEntry
symbol_entry order entries index = record {
  name = number_at w32 order entries (24 * index);
  info = slice_index entries (24 * index + 4);
  section = number_at w16 order entries (24 * index + 6);
  value = number_at w64 order entries (24 * index + 8);
  size = number_at w64 order entries (24 * index + 16);
}

-- The binding is the high four bits of st_info, and the type is the low four.
abbrev pub binding_of : SymbolEntry → ℕ
binding_of entry = entry.info / 16

abbrev pub type_of : SymbolEntry → ℕ
type_of entry = entry.info % 16

-- The section of a symbol. There is none if st_shndx is SHN_UNDEF or reserved, that is
-- SHN_LORESERVE or more.
abbrev pub section_of : SymbolEntry → Option ℕ
section_of entry =
    if (entry.section == 0) || not (nat_lt entry.section 0xff00) then None else Some entry.section

-- The kind of a type: STT_OBJECT 1, STT_FUNC 2, STT_SECTION 3, STT_FILE 4, STT_COMMON 5, STT_TLS 6,
-- STT_GNU_IFUNC 10.
abbrev pub kind_of : ℕ → SymbolKind
kind_of type =
    if (type == 1) || (type == 5) then Data else
    if (type == 2) || (type == 10) then Text else
    if type == 3 then Section else
    if type == 4 then File else
    if type == 6 then Tls else Unknown

-- Whether a symbol is a definition: it has a section, and is a function, an object, or of no type
-- (STT_NOTYPE 0) but with a size.
abbrev pub is_defined : SymbolEntry → Bool
is_defined entry =
    is_some (section_of entry)
    && ((type_of entry == 1)
    || (type_of entry == 2)
    || ((type_of entry == 0) && not (entry.size == 0)))

-- A symbol, by the bytes of the names, its index and its entry.
unfoldable pub symbol_from : Option (List ℕ) → ℕ → SymbolEntry → Symbol
symbol_from names index entry = record {
  index = index;
  name_offset = entry.name;
  name = name_in names entry.name;
  section_index = section_of entry;
  address = entry.value;
  size = entry.size;
  kind = kind_of (type_of entry);
  is_definition = is_defined entry;
  is_global = not (binding_of entry == 0);
  is_weak = binding_of entry == 2;
}

-- The index of the first section of type SHT_SYMTAB.
abbrev pub symbol_table_index : ByteOrder → List ℕ → Option ℕ
symbol_table_index order table =
    find (λ i. (section_header order table i).kind == 2) (section_indexes table)

-- The index of the first symbol table. Its header lies in the section header table.
pub record IsSymbolTable (order : ByteOrder) (table : List ℕ) (index : Option ℕ) : Type 0 where
  pub first : index ≡ symbol_table_index order table
  pub within : IfSome index (λ i. (0 < i) × (64 * i + 64 ≤ length table))

-- The bytes of the string table that a symbol table is linked to.
abbrev pub symbol_names_in : List ℕ → ByteOrder → List ℕ → SectionHeader → Option (List ℕ)
symbol_names_in bytes order table header =
    option_and_then (file_bytes_in bytes) (section_at order table header.link)

-- The bytes of the entries of a symbol table.
abbrev pub symbol_entries_in : List ℕ → SectionHeader → List ℕ
symbol_entries_in bytes header = unwrap_or (bytes_at bytes header.offset header.size) []

-- The symbols at some indexes.
abbrev pub symbols_at : ByteOrder → List ℕ → Option (List ℕ) → List ℕ → List Symbol
symbols_at order entries names indexes =
    map (λ i. symbol_from names i (symbol_entry order entries i)) indexes

-- The symbols of a symbol table, without symbol 0.
abbrev pub symbols_from : List ℕ → ByteOrder → List ℕ → SectionHeader → List Symbol
symbols_from bytes order table header =
    symbols_at order (symbol_entries_in bytes header) (symbol_names_in bytes order table header)
    (range_with_len 1 (length (symbol_entries_in bytes header) / 24 - 1))

abbrev pub symbols_in : List ℕ → ByteOrder → List ℕ → List Symbol
symbols_in bytes order table =
    unwrap_or
    (option_map (λ i. symbols_from bytes order table (section_header order table i))
    (symbol_table_index order table)) []

-- The symbols of a file, in order of index.
unfoldable pub symbols_of : List ℕ → List Symbol
symbols_of bytes =
    unwrap_or
    (option_and_then (λ header. option_map (symbols_in bytes header.order) (table_in bytes header))
    (header_of bytes)) []

-- The bytes that hold the names of a file's symbols. There are none without a symbol table.
abbrev pub symbol_names_for : List ℕ → ByteOrder → List ℕ → Option (List ℕ)
symbol_names_for bytes order table =
    option_and_then (λ i. symbol_names_in bytes order table (section_header order table i))
    (symbol_table_index order table)

unfoldable pub symbol_names_of : List ℕ → Option (List ℕ)
symbol_names_of bytes =
    option_and_then
    (λ header. option_and_then (symbol_names_for bytes header.order) (table_in bytes header))
    (header_of bytes)

-- The relocations of a file: the entries of the relocation sections of its symbol table (ELF-64
-- object file format, Relocation).
use Rattle.std.specs.Prelude.{ℕ, ◌+◌, ◌*◌, ◌/◌, ◌%◌, ◌^◌, ◌≤◌, ◌<◌, List, [], length, map, filter, flat_map, ◌==◌, ◌&&◌, ◌||◌, not, Bool, if◌then◌else◌, Option, Some, None, unwrap_or, option_and_then}
use Rattle.std.specs.Option.{option_map}
use Rattle.std.specs.List.{range_with_len}
use Rattle.std.specs.Int.{w64}
use Rattle.elf64.specs.declared.order.ByteOrder.{ByteOrder}
use Rattle.elf64.specs.declared.header.SectionHeader.{SectionHeader}
use Rattle.elf64.specs.Numbers.{number_at, bytes_at}
use Rattle.elf64.specs.Headers.{header_of, table_in, section_header, section_indexes}
use Rattle.elf64.specs.Symbols.{symbol_table_index}

-- A relocation, with the index of its symbol if it has one.
pub record Relocation : Type 0 where
  pub offset : ℕ
  pub symbol : Option ℕ
  pub width : ℕ

-- The symbol of an r_info: its high 32 bits, where 0 is no symbol.
abbrev pub symbol_in : ℕ → Option ℕ
symbol_in info = if info / 2 ^ 32 == 0 then None else Some (info / 2 ^ 32)

-- The width of an r_info in bits. The type is the low 32 bits: R_BPF_64_64 1 relocates 64 bits,
-- R_BPF_64_32 10 relocates 32.
abbrev pub width_in : ℕ → ℕ
width_in info = if info % 2 ^ 32 == 1 then 64 else if info % 2 ^ 32 == 10 then 32 else 0

-- A relocation, by r_offset and r_info.
unfoldable pub relocation_from : ℕ → ℕ → Relocation
relocation_from offset info =
    record { offset = offset; symbol = symbol_in info; width = width_in info }

-- The relocation at an offset of a relocation section's bytes.
abbrev pub relocation_at : ByteOrder → List ℕ → ℕ → Relocation
relocation_at order entries at =
    relocation_from (number_at w64 order entries at) (number_at w64 order entries (at + 8))

-- The size of an entry. An entry of SHT_RELA has an addend, which isn't read.
abbrev pub entry_size : SectionHeader → ℕ
entry_size header = if header.kind == 4 then 24 else 16

-- Whether a section has type SHT_RELA or SHT_REL, uses the symbol table at an index and has a
-- target.
abbrev pub is_relocation_table : ℕ → SectionHeader → Bool
is_relocation_table symbol_table header =
    ((header.kind == 4) || (header.kind == 9))
    && (header.link == symbol_table)
    && not (header.info == 0)

-- The entries at some indexes of a relocation section's bytes.
abbrev pub entries_at : ByteOrder → ℕ → List ℕ → List ℕ → List Relocation
entries_at order size entries indexes = map (λ i. relocation_at order entries (size * i)) indexes

-- The entries of a relocation section's bytes, in order.
abbrev pub entries_in : ByteOrder → ℕ → List ℕ → List Relocation
entries_in order size entries =
    entries_at order size entries (range_with_len 0 (length entries / size))

-- The `left` entries from the index `next` on lie within `len` bytes.
pub record AreEntriesWithin (size next left len : ℕ) : Type 0 where
  pub least : 16 ≤ size
  pub within : 0 < left → size * (next + left) ≤ len

-- A relocation section: the index of the section that its entries apply to, and the entries.
pub record RelocationSection : Type 0 where
  pub target : ℕ
  pub relocations : List Relocation

-- A relocation section, by the file's bytes and its header.
unfoldable pub relocation_section_from : List ℕ → ByteOrder → SectionHeader → RelocationSection
relocation_section_from bytes order header = record {
  target = header.info;
  relocations =
      entries_in order (entry_size header)
      (unwrap_or (bytes_at bytes header.offset header.size) []);
}

-- The relocation sections of a symbol table among the sections at some indexes.
abbrev pub relocation_sections_at : List ℕ
    → ByteOrder
    → List ℕ
    → ℕ
    → List ℕ
    → List RelocationSection
relocation_sections_at bytes order table symbol_table indexes =
    map (relocation_section_from bytes order)
    (filter (is_relocation_table symbol_table) (map (section_header order table) indexes))

abbrev pub relocation_sections_in : List ℕ → ByteOrder → List ℕ → List RelocationSection
relocation_sections_in bytes order table =
    unwrap_or
    (option_map
    (λ symbol_table. relocation_sections_at bytes order table symbol_table (section_indexes table))
    (symbol_table_index order table)) []

-- The relocation sections of a file's symbol table, in order of index.
unfoldable pub relocation_sections_of : List ℕ → List RelocationSection
relocation_sections_of bytes =
    unwrap_or
    (option_and_then
    (λ header. option_map (relocation_sections_in bytes header.order) (table_in bytes header))
    (header_of bytes)) []

-- The relocations of a target in some relocation sections.
abbrev pub relocations_to : ℕ → List RelocationSection → List Relocation
relocations_to target sections =
    flat_map (λ s. s.relocations) (filter (λ s. s.target == target) sections)

-- The relocations of the section at an index, by relocation section and then by entry.
unfoldable pub relocations_of : List ℕ → ℕ → List Relocation
relocations_of bytes target = relocations_to target (relocation_sections_of bytes)

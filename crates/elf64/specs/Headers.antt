-- The file header and the section headers (ELF-64 object file format, File Header and Sections), as
-- functions of the file's bytes.
use Rattle.std.specs.Prelude.{◌≡◌, ℕ, ◌+◌, ◌-◌, ◌*◌, ◌/◌, List, [], ◌∷◌, length, take, slice_get, slice_index, nat_le, Bool, ◌==◌, ◌&&◌, ◌||◌, if◌then◌else◌, Option, Some, None}
use Rattle.std.specs.Option.{option_map}
use Rattle.std.specs.List.{range_with_len}
use Rattle.std.specs.Int.{w16, w32, w64}
use Rattle.std.specs.Str.{bytes_eq}
use Rattle.elf64.specs.declared.order.ByteOrder.{ByteOrder}
use Rattle.elf64.specs.declared.order.ByteOrder.TheVariants.{Little, Big}
use Rattle.elf64.specs.declared.header.FileHeader.{FileHeader}
use Rattle.elf64.specs.declared.header.SectionHeader.{SectionHeader}
use Rattle.elf64.specs.Numbers.{number_at, bytes_at}

-- The byte order of a value of EI_DATA.
abbrev pub order_named : ℕ → Option ByteOrder
order_named byte = if byte == 1 then Some Little else if byte == 2 then Some Big else None

-- The file begins with the ELF magic and is long enough for a file header.
abbrev pub is_elf : List ℕ → Bool
is_elf bytes = nat_le 64 (length bytes) && bytes_eq (take 4 bytes) (0x7f ∷ 0x45 ∷ 0x4c ∷ 0x46 ∷ [])

-- EI_CLASS is ELFCLASS64.
abbrev pub is_elf64 : List ℕ → Bool
is_elf64 bytes = is_elf bytes && (slice_index bytes 4 == 2)

-- The byte order of an ELF64 file.
abbrev pub order_of : List ℕ → Option ByteOrder
order_of bytes = if is_elf64 bytes then order_named (slice_index bytes 5) else None

-- The fields of the file header: e_shoff, e_shentsize, e_shnum and e_shstrndx.
unfoldable pub file_header : List ℕ → ByteOrder → FileHeader
file_header bytes order = record {
  order = order;
  section_headers_offset = number_at w64 order bytes 40;
  section_header_size = number_at w16 order bytes 58;
  section_count = number_at w16 order bytes 60;
  names_index = number_at w16 order bytes 62;
}

-- The file header of an ELF64 file in a known byte order.
abbrev pub header_of : List ℕ → Option FileHeader
header_of bytes = option_map (file_header bytes) (order_of bytes)

-- The bytes of the section header table, if its headers have 64 bytes and lie in the file. The
-- table is empty if e_shoff is 0.
abbrev pub table_in : List ℕ → FileHeader → Option (List ℕ)
table_in bytes header =
    if header.section_headers_offset == 0 then Some [] else
    if header.section_header_size == 64
    then bytes_at bytes header.section_headers_offset (64 * header.section_count)
    else None

-- The fields of the section header at an index.
unfoldable pub section_header : ByteOrder → List ℕ → ℕ → SectionHeader
section_header order table index = record {
  name = number_at w32 order table (64 * index);
  kind = number_at w32 order table (64 * index + 4);
  flags = number_at w64 order table (64 * index + 8);
  address = number_at w64 order table (64 * index + 16);
  offset = number_at w64 order table (64 * index + 24);
  size = number_at w64 order table (64 * index + 32);
  link = number_at w32 order table (64 * index + 40);
  info = number_at w32 order table (64 * index + 44);
}

-- The number of section headers of a table, including that of index 0.
abbrev pub header_count : List ℕ → ℕ
header_count table = length table / 64

-- The section header at an index, if there is one. Index 0 has none.
abbrev pub section_at : ByteOrder → List ℕ → ℕ → Option SectionHeader
section_at order table index =
    if index == 0 || nat_le (header_count table) index
    then None
    else Some (section_header order table index)

-- The indexes of the sections.
abbrev pub section_indexes : List ℕ → List ℕ
section_indexes table = range_with_len 1 (header_count table - 1)

-- Items in order of index, from index 1 on, without gaps.
pub record AreNumbered {X : Type 0} (items : List X) (index_of : X → ℕ) : Type 0 where
  pub numbered : (i : ℕ) (item : X) → slice_get items i ≡ Some item → index_of item ≡ i + 1

-- The header and the section header table of a file.
pub record HasHeaders (bytes : List ℕ) (header : FileHeader) (table : List ℕ) : Type 0 where
  pub orders : order_of bytes ≡ Some header.order
  pub headers : header_of bytes ≡ Some header
  pub tables : table_in bytes header ≡ Some table

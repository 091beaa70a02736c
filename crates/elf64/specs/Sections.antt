-- The sections of a file (ELF-64 object file format, Sections).
use Rattle.std.specs.Prelude.{ℕ, List, [], map, find, ◌==◌, ◌&&◌, Bool, false, if◌then◌else◌, Option, Some, None, unwrap_or, option_and_then, bit_and}
use Rattle.std.specs.Option.{option_map, option_map_or}
use Rattle.std.specs.Str.{bytes_eq}
use Rattle.elf64.specs.declared.order.ByteOrder.{ByteOrder}
use Rattle.elf64.specs.declared.header.FileHeader.{FileHeader}
use Rattle.elf64.specs.declared.header.SectionHeader.{SectionHeader}
use Rattle.elf64.specs.Numbers.{bytes_at}
use Rattle.elf64.specs.Headers.{header_of, table_in, section_header, section_at, section_indexes}
use Rattle.elf64.specs.Names.{name_in}

-- A section, with its name and contents if they can be read, and the offset of its name in the
-- section's names.
pub record Section : Type 0 where
  pub index : ℕ
  pub name_offset : ℕ
  pub name : Option (List ℕ)
  pub contents : Option (List ℕ)
  pub address : ℕ
  pub size : ℕ
  pub is_text : Bool

-- The bytes of a section in the file, if there are any. A section of type SHT_NOBITS has none.
abbrev pub file_bytes_in : List ℕ → SectionHeader → Option (List ℕ)
file_bytes_in bytes header =
    if header.kind == 8 then None else bytes_at bytes header.offset header.size

-- The contents of a section: empty for SHT_NOBITS.
abbrev pub contents_in : List ℕ → SectionHeader → Option (List ℕ)
contents_in bytes header =
    if header.kind == 8 then Some [] else bytes_at bytes header.offset header.size

-- The section of e_shstrndx, which holds the sections' names, if its bytes lie in the file.
abbrev pub section_names_in : List ℕ → FileHeader → List ℕ → Option (List ℕ)
section_names_in bytes header table =
    option_and_then (contents_in bytes) (section_at header.order table header.names_index)

-- Executable text: SHT_PROGBITS with SHF_ALLOC and SHF_EXECINSTR.
abbrev pub is_executable : SectionHeader → Bool
is_executable header = (header.kind == 1) && (bit_and header.flags 6 == 6)

-- A section, by the file's bytes, the bytes of the names, its index and its header.
unfoldable pub section_from : List ℕ → Option (List ℕ) → ℕ → SectionHeader → Section
section_from bytes names index header = record {
  index = index;
  name_offset = header.name;
  name = name_in names header.name;
  contents = contents_in bytes header;
  address = header.address;
  size = header.size;
  is_text = is_executable header;
}

-- The sections at some indexes.
abbrev pub sections_at : List ℕ → ByteOrder → List ℕ → Option (List ℕ) → List ℕ → List Section
sections_at bytes order table names indexes =
    map (λ i. section_from bytes names i (section_header order table i)) indexes

abbrev pub sections_in : List ℕ → FileHeader → List ℕ → List Section
sections_in bytes header table =
    sections_at bytes header.order table (section_names_in bytes header table)
    (section_indexes table)

-- The sections of a file, in order of index, without section 0.
unfoldable pub sections_of : List ℕ → List Section
sections_of bytes =
    unwrap_or
    (option_and_then (λ header. option_map (sections_in bytes header) (table_in bytes header))
    (header_of bytes)) []

-- The bytes that hold the names of a file's sections.
unfoldable pub section_names_of : List ℕ → Option (List ℕ)
section_names_of bytes =
    option_and_then
    (λ header. option_and_then (section_names_in bytes header) (table_in bytes header))
    (header_of bytes)

-- Whether a section has this name.
abbrev pub has_name : List ℕ → Section → Bool
has_name name section = option_map_or (λ text. bytes_eq text name) section.name false

-- The first section with a name.
abbrev pub section_named : List ℕ → List ℕ → Option Section
section_named bytes name = find (has_name name) (sections_of bytes)

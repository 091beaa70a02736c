-- The header of the section, and its regions of functions, lines and relocations ("BTF.ext
-- section").
use Rattle.std.specs.Prelude.{ℕ, ◌+◌, ◌<◌, ◌≤◌, ◌⊎◌, ◌==◌, if◌then◌else◌, List, [], ◌∷◌, length, take, drop, slice_index_or}
use Rattle.btf_records.specs.Words.{word_at}
use Rattle.btf_records.specs.declared.words.Endianness.{Endianness}
use Rattle.btf_ext.specs.declared.region.RegionExtent.{RegionExtent}
use Rattle.btf_ext.specs.declared.region.RegionKind.{RegionKind}
use Rattle.btf_ext.specs.declared.region.RegionKind.TheVariants.{Functions, Lines, Relocations}

-- The header: magic, version, flags, its own length, and for each region its offset and its length.
abbrev pub header_len : Endianness → List ℕ → ℕ
header_len order bytes = word_at order bytes 4

pub record HasHeader (order : Endianness) (bytes : List ℕ) : Type 0 where
  pub head : 8 ≤ length bytes
  pub least : 8 ≤ header_len order bytes
  pub within : header_len order bytes ≤ length bytes

abbrev pub IsHeaderCut : Endianness → List ℕ → Type 0
IsHeaderCut order bytes =
    (length bytes < 8)
    ⊎ ((8 ≤ length bytes)
    × ((header_len order bytes < 8) ⊎ (length bytes < header_len order bytes)))

abbrev pub header_in : Endianness → List ℕ → List ℕ
header_in order bytes = take (header_len order bytes) bytes

-- The word at an offset of the header. Bytes past the end of the header are 0.
abbrev pub padded_word : Endianness → List ℕ → ℕ → ℕ
padded_word order header at =
    word_at order
    (slice_index_or header at 0
    ∷ slice_index_or header (at + 1) 0
    ∷ slice_index_or header (at + 2) 0
    ∷ slice_index_or header (at + 3) 0
    ∷ []) 0

-- The offset of a region's fields in the header.
abbrev pub field_of : RegionKind → ℕ
field_of Functions = 8
field_of Lines = 16
field_of Relocations = 24

-- A region in the section. Its offset counts from the end of the header.
abbrev pub region_extent : RegionKind → Endianness → List ℕ → RegionExtent
region_extent kind order bytes = record {
  offset = header_len order bytes + padded_word order (header_in order bytes) (field_of kind);
  len = padded_word order (header_in order bytes) (field_of kind + 4);
  section_len = length bytes;
}

abbrev pub IsWithin : RegionExtent → Type 0
IsWithin place = place.offset + place.len ≤ place.section_len

abbrev pub IsPastEnd : RegionExtent → Type 0
IsPastEnd place = place.section_len < place.offset + place.len

-- A region that isn't empty is too short for the size of its records.
abbrev pub HasNoSize : RegionExtent → Type 0
HasNoSize place = (0 < place.len) × (place.len < 4)

abbrev pub region_in : RegionKind → Endianness → List ℕ → List ℕ
region_in kind order bytes =
    take (region_extent kind order bytes).len (drop (region_extent kind order bytes).offset bytes)

-- A region: the size of its records, and then its section infos. An empty region has neither.
abbrev pub size_in : Endianness → List ℕ → ℕ
size_in order region = if length region == 0 then 0 else word_at order region 0

abbrev pub section_infos_bytes : List ℕ → List ℕ
section_infos_bytes region = drop 4 region

-- The least size of the records of a region.
abbrev pub least_size : RegionKind → ℕ
least_size Functions = 8
least_size Lines = 16
least_size Relocations = 16

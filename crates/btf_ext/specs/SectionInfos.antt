-- Section infos, each with the records for one section of instructions ("BTF.ext section").
use Rattle.std.specs.Prelude.{◌≡◌, ℕ, ◌+◌, ◌*◌, ◌<◌, ◌≤◌, List, [], ◌∷◌, length, drop}
use Rattle.btf_records.specs.Words.{word_at}
use Rattle.btf_encoding.specs.Items.{items_in}
use Rattle.btf_records.specs.declared.words.Endianness.{Endianness}

pub record SectionInfo (R : Type 0) : Type 0 where
  pub name_offset : ℕ
  pub records : List R

-- The number of records of a section info, and its length in bytes, by the size of a record.
abbrev pub count_in : Endianness → List ℕ → ℕ
count_in order bytes = word_at order bytes 4

abbrev pub section_info_len : Endianness → ℕ → List ℕ → ℕ
section_info_len order size bytes = 8 + size * count_in order bytes

-- More than 8 bytes begin with a complete section info.
pub record IsSectionInfo (order : Endianness) (size : ℕ) (bytes : List ℕ) : Type 0 where
  pub begun : 8 < length bytes
  pub whole : section_info_len order size bytes ≤ length bytes

-- The section info that the bytes begin with. Only the first words of a longer record are read.
abbrev pub section_info_in : {R : Type 0} → Endianness → (Endianness → List ℕ → R) → ℕ → List ℕ → SectionInfo R
section_info_in order read size bytes = record {
  name_offset = word_at order bytes 0;
  records = items_in (read order) size (count_in order bytes) (drop 8 bytes);
}

-- The bytes are these section infos, one after the other. A rest of at most 8 bytes ends them.
abbrev pub AreSectionInfos : {R : Type 0}
    → Endianness
    → (Endianness → List ℕ → R)
    → ℕ
    → List ℕ
    → List (SectionInfo R)
    → Type 0
AreSectionInfos order read size bytes [] = length bytes ≤ 8
AreSectionInfos order read size bytes (g ∷ gs) =
    IsSectionInfo order size bytes
    × (g ≡ section_info_in order read size bytes)
    × AreSectionInfos order read size (drop (section_info_len order size bytes) bytes) gs

-- Complete section infos at these offsets, one after the other, from one offset to another.
abbrev pub Reach : Endianness → ℕ → List ℕ → ℕ → List ℕ → ℕ → Type 0
Reach order size bytes from [] to = from ≡ to
Reach order size bytes from (place ∷ places) to =
    (place ≡ from)
    × IsSectionInfo order size (drop place bytes)
    × Reach order size bytes (place + section_info_len order size (drop place bytes)) places to

-- A property holds of the bytes after some complete section infos.
pub record StandsAfter (order : Endianness) (size : ℕ) (bytes : List ℕ) (Stands : List ℕ → Type 0)
    : Type 0 where
  pub places : List ℕ
  pub at : ℕ
  pub reached : Reach order size bytes 0 places at
  pub here : Stands (drop at bytes)

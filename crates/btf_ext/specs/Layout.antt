-- The layout of the section infos of a region in memory: the offset of each.
use Rattle.std.specs.Prelude.{◌≡◌, ℕ, ◌⊎◌, ◌*◌, ◌<◌, ◌≤◌, Bool, List, All, drop, length, map}
use Rattle.btf_records.specs.Words.{word_at}
use Rattle.btf_records.specs.declared.error.BtfError.{BtfError}
use Rattle.btf_records.specs.declared.words.Endianness.{Endianness}
use Rattle.btf_ext.specs.Extensions.{Extension}
use Rattle.btf_ext.specs.Faults.{SectionInfoFault, HasSize, kind_count}
use Rattle.btf_ext.specs.SectionInfos.{SectionInfo, IsSectionInfo, Reach, count_in, section_info_in}
use Rattle.btf_ext.specs.Names.{is_text}
use Rattle.btf_ext.specs.Records.{func_in, line_in, relocation_in}
use Rattle.btf_ext.specs.Regions.{section_infos_bytes, size_in}
use Rattle.btf_ext.specs.declared.section_info_list.SectionInfoList.{SectionInfoList}
use Rattle.btf_ext.specs.declared.sec_info.SectionInfoRecords.{SectionInfoRecords}
use Rattle.btf_ext.specs.declared.region.RegionKind.{RegionKind}

-- The section infos at the offsets.
abbrev pub section_infos_at : {R : Type 0} → (Endianness → List ℕ → R) → SectionInfoList → List (SectionInfo R)
section_infos_at read g =
    map (λ place. section_info_in g.order read g.size (drop place g.bytes.now)) g.places.items

-- A complete section info begins at each offset.
pub record AreWhole (g : SectionInfoList) : Type 0 where
  pub stand : All (λ place. IsSectionInfo g.order g.size (drop place g.bytes.now)) g.places.items

-- The section infos are complete, and their records have at least `least` bytes.
pub record AreLaidOut (least : ℕ) (g : SectionInfoList) : Type 0 where
  pub whole : AreWhole g
  pub sized : All (λ place. least ≤ g.size) g.places.items

-- Whether the section info at an offset has this name.
abbrev pub is_named : List ℕ → List ℕ → SectionInfoList → ℕ → Bool
is_named strings name g place = is_text strings name (word_at g.order (drop place g.bytes.now) 0)

-- The records of the section info at an offset.
pub record AreRecordsOf (g : SectionInfoList) (place : ℕ) (records : SectionInfoRecords) : Type 0 where
  pub order : records.order ≡ g.order
  pub size : records.size ≡ g.size
  pub count : records.count ≡ count_in g.order (drop place g.bytes.now)
  pub bytes : records.bytes.now ≡ drop 8 (drop place g.bytes.now)

pub record AreSameSectionInfos (g other : SectionInfoList) : Type 0 where
  pub order : other.order ≡ g.order
  pub size : other.size ≡ g.size
  pub bytes : other.bytes.now ≡ g.bytes.now
  pub places : other.places.items ≡ g.places.items

-- The extension whose regions have this layout.
abbrev pub extension_of : List ℕ → SectionInfoList → SectionInfoList → SectionInfoList → Extension
extension_of strings functions lines relocations = record {
  order = functions.order;
  strings = strings;
  func_size = functions.size;
  line_size = lines.size;
  functions = section_infos_at func_in functions;
  lines = section_infos_at line_in lines;
  relocations = section_infos_at relocation_in relocations;
}

-- Each relocation of a section info has a known kind.
pub record AreKindsKnown (order : Endianness) (size : ℕ) (bytes : List ℕ) : Type 0 where
  pub known : (index : ℕ)
      → index < count_in order bytes
      → word_at order (drop (size * index) (drop 8 bytes)) 12 < kind_count

-- Each relocation of all section infos has a known kind.
pub record AreAllKindsKnown (g : SectionInfoList) : Type 0 where
  pub each : All (λ place. AreKindsKnown g.order g.size (drop place g.bytes.now)) g.places.items

-- A section info has no fault.
pub record IsFaultless (kind : RegionKind) (order : Endianness) (size : ℕ) (strings bytes : List ℕ)
    : Type 0 where
  pub none : (e : BtfError) → SectionInfoFault kind order size strings bytes e → ⊥

-- These are the offsets of the section infos that the bytes consist of, and no section info has a
-- fault.
pub record ArePlaces (kind : RegionKind) (order : Endianness) (size : ℕ)
    (strings bytes places : List ℕ) : Type 0 where
  pub end : ℕ
  pub reached : Reach order size bytes 0 places end
  pub ended : length (drop end bytes) ≤ 8
  pub faultless : All (λ place. IsFaultless kind order size strings (drop place bytes)) places

-- The section infos of a region were read.
pub record IsRead (kind : RegionKind) (order : Endianness) (strings region : List ℕ) (g : SectionInfoList)
    : Type 0 where
  pub same_order : g.order ≡ order
  pub size : g.size ≡ size_in order region
  pub bytes : g.bytes.now ≡ section_infos_bytes region
  pub sized : (length region ≡ 0) ⊎ HasSize kind order region
  pub places : ArePlaces kind order (size_in order region) strings (section_infos_bytes region)
      g.places.items

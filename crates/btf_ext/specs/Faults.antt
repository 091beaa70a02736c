-- The faults of a `.BTF.ext` section, and the error for each.
use Rattle.std.specs.Prelude.{◌≡◌, ℕ, ◌*◌, ◌<◌, ◌≤◌, ◌⊎◌, List, length, drop, None}
use Rattle.btf_records.specs.Words.{word_at}
use Rattle.btf_records.specs.declared.error.BtfError.{BtfError}
use Rattle.btf_records.specs.declared.error.BtfError.TheVariants.{InvalidHeader, InvalidInfo, InvalidLineInfo, InvalidRelocationInfo, InvalidRelocationKind, InvalidStringOffset}
use Rattle.btf_records.specs.declared.words.Endianness.{Endianness}
use Rattle.string_table.specs.Texts.{text_at}
use Rattle.btf_ext.specs.SectionInfos.{IsSectionInfo, StandsAfter, count_in, section_info_len}
use Rattle.btf_ext.specs.Records.{relocation_in}
use Rattle.btf_ext.specs.Regions.{HasHeader, HasNoSize, IsHeaderCut, IsPastEnd, IsWithin, section_infos_bytes, least_size, region_extent, region_in, size_in}
use Rattle.btf_ext.specs.declared.region.RegionExtent.{RegionExtent}
use Rattle.btf_ext.specs.declared.region.RegionKind.{RegionKind}
use Rattle.btf_ext.specs.declared.region.RegionKind.TheVariants.{Functions, Lines, Relocations}

-- The error for a region that doesn't fit the section.
abbrev pub misplaced : RegionExtent → BtfError
misplaced place = InvalidInfo place.offset place.len place.section_len

-- The error for records that are too short or cut off.
abbrev pub bad_records : RegionKind → RegionExtent → BtfError
bad_records Functions place = InvalidInfo place.offset place.len place.section_len
bad_records Lines place = InvalidLineInfo place.offset place.len place.section_len
bad_records Relocations place = InvalidRelocationInfo

-- The name of the section info that the bytes begin with can't be read.
abbrev pub NameFault : Endianness → List ℕ → List ℕ → BtfError → Type 0
NameFault order strings bytes (InvalidStringOffset offset) =
    (offset ≡ word_at order bytes 0) × (text_at strings offset ≡ None)
NameFault order strings bytes _ = ⊥

-- The number of known kinds of relocations. The kinds are the numbers below it.
abbrev pub kind_count : ℕ
kind_count = 12

-- The section info has a relocation of an unknown kind.
pub record HasUnknownKind (order : Endianness) (size : ℕ) (bytes : List ℕ) (kind : ℕ) : Type 0 where
  pub index : ℕ
  pub within : index < count_in order bytes
  pub here : (relocation_in order (drop (size * index) (drop 8 bytes))).kind ≡ kind
  pub unknown : kind_count ≤ kind

abbrev pub KindFault : Endianness → ℕ → List ℕ → BtfError → Type 0
KindFault order size bytes (InvalidRelocationKind kind) = HasUnknownKind order size bytes kind
KindFault order size bytes _ = ⊥

-- The faults of a complete section info. The names of section infos of relocations aren't read
-- here.
abbrev pub SectionInfoFault : RegionKind → Endianness → ℕ → List ℕ → List ℕ → BtfError → Type 0
SectionInfoFault Functions order size strings bytes e = NameFault order strings bytes e
SectionInfoFault Lines order size strings bytes e = NameFault order strings bytes e
SectionInfoFault Relocations order size strings bytes e = KindFault order size bytes e

-- More than 8 bytes begin with a section info that is cut off.
abbrev pub IsCut : Endianness → ℕ → List ℕ → Type 0
IsCut order size bytes = (8 < length bytes) × (length bytes < section_info_len order size bytes)

-- The faults of the section info that the bytes begin with.
abbrev pub FaultHere : RegionKind → Endianness → ℕ → List ℕ → RegionExtent → BtfError → List ℕ → Type 0
FaultHere kind order size strings place e bytes =
    ((e ≡ bad_records kind place) × IsCut order size bytes)
    ⊎ (IsSectionInfo order size bytes × SectionInfoFault kind order size strings bytes e)

-- The region gives the size of its records, and the size is large enough.
abbrev pub HasSize : RegionKind → Endianness → List ℕ → Type 0
HasSize kind order region = (4 ≤ length region) × (least_size kind ≤ size_in order region)

abbrev pub HasBadSize : RegionKind → Endianness → List ℕ → Type 0
HasBadSize kind order region = (4 ≤ length region) × (size_in order region < least_size kind)

-- The faults of the records of a region.
abbrev pub RecordsFault : RegionKind → Endianness → List ℕ → RegionExtent → List ℕ → BtfError → Type 0
RecordsFault kind order strings place region e =
    ((e ≡ bad_records kind place) × HasBadSize kind order region)
    ⊎ (HasSize kind order region
    × StandsAfter order (size_in order region) (section_infos_bytes region)
    (FaultHere kind order (size_in order region) strings place e))

-- The region lies past the end of the section, or is too short for the size of its records.
abbrev pub ExtentFault : RegionExtent → BtfError → Type 0
ExtentFault place e = (e ≡ misplaced place) × (IsPastEnd place ⊎ HasNoSize place)

-- The faults of a region.
abbrev pub RegionFault : RegionKind → Endianness → List ℕ → List ℕ → BtfError → Type 0
RegionFault kind order strings bytes e =
    ExtentFault (region_extent kind order bytes) e
    ⊎ (IsWithin (region_extent kind order bytes)
    × RecordsFault kind order strings (region_extent kind order bytes) (region_in kind order bytes) e)

-- The faults of a section.
abbrev pub ExtensionFault : Endianness → List ℕ → List ℕ → BtfError → Type 0
ExtensionFault order strings bytes e =
    ((e ≡ InvalidHeader) × IsHeaderCut order bytes)
    ⊎ (HasHeader order bytes × ((kind : RegionKind) × RegionFault kind order strings bytes e))

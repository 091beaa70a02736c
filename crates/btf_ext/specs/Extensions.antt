-- The content of a `.BTF.ext` section, which belongs to a table of types ("BTF.ext section").
use Rattle.std.specs.Prelude.{◌≡◌, ℕ, List}
use Rattle.btf_records.specs.declared.error.BtfError.{BtfError}
use Rattle.btf_records.specs.declared.words.Endianness.{Endianness}
use Rattle.btf_ext.specs.Faults.{ExtensionFault}
use Rattle.btf_ext.specs.SectionInfos.{AreSectionInfos, SectionInfo}
use Rattle.btf_ext.specs.Records.{func_in, line_in, relocation_in}
use Rattle.btf_ext.specs.Regions.{HasHeader, IsWithin, section_infos_bytes, region_extent, region_in, size_in}
use Rattle.btf_ext.specs.declared.record.bpf_core_relo.{bpf_core_relo}
use Rattle.btf_ext.specs.declared.record.bpf_func_info.{bpf_func_info}
use Rattle.btf_ext.specs.declared.record.bpf_line_info.{bpf_line_info}
use Rattle.btf_ext.specs.declared.region.RegionKind.{RegionKind}
use Rattle.btf_ext.specs.declared.region.RegionKind.TheVariants.{Functions, Lines, Relocations}

-- The sizes of records are in bytes, as the section gives them. The strings are those of the table,
-- and contain the names of the section infos.
pub record Extension : Type 0 where
  pub order : Endianness
  pub strings : List ℕ
  pub func_size : ℕ
  pub line_size : ℕ
  pub functions : List (SectionInfo bpf_func_info)
  pub lines : List (SectionInfo bpf_line_info)
  pub relocations : List (SectionInfo bpf_core_relo)

-- The region holds these section infos.
abbrev pub Holds : {R : Type 0}
    → RegionKind
    → Endianness
    → (Endianness → List ℕ → R)
    → List ℕ
    → List (SectionInfo R)
    → Type 0
Holds kind order read bytes section_infos =
    IsWithin (region_extent kind order bytes)
    × AreSectionInfos order read (size_in order (region_in kind order bytes))
    (section_infos_bytes (region_in kind order bytes)) section_infos

-- The section holds this extension. Neither its magic nor its version is checked.
pub record IsExtension (order : Endianness) (strings bytes : List ℕ) (extension : Extension)
    : Type 0 where
  pub header : HasHeader order bytes
  pub same_order : extension.order ≡ order
  pub same_strings : extension.strings ≡ strings
  pub func_size : extension.func_size ≡ size_in order (region_in Functions order bytes)
  pub line_size : extension.line_size ≡ size_in order (region_in Lines order bytes)
  pub functions : Holds Functions order func_in bytes extension.functions
  pub lines : Holds Lines order line_in bytes extension.lines
  pub relocations : Holds Relocations order relocation_in bytes extension.relocations

-- The section holds this extension and no other, and has no fault.
pub record HoldsExtension (order : Endianness) (strings bytes : List ℕ) (extension : Extension)
    : Type 0 where
  pub holds : IsExtension order strings bytes extension
  pub faultless : (e : BtfError) → ExtensionFault order strings bytes e → ⊥
  pub alone : (other : Extension) → IsExtension order strings bytes other → other ≡ extension

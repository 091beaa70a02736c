-- Maps of sections of variables, `.data`, `.rodata` and `.bss`: the kernel's array maps of one
-- entry ("Global data sections" of the libbpf documentation).
use Rattle.std.specs.Prelude.{ℕ, ◌^◌, List, [], ◌∷◌, nat_lt, false, None, unwrap_or, if◌then◌else◌}
use Rattle.std.proofs.Math.ListN.{replicate}
use Rattle.elf64.specs.Sections.{Section}
use Rattle.ebpf_items.specs.Maps.{MapView, MapWords}
use Rattle.ebpf_items.specs.declared.maps.PinningType.TheVariants as pinning
use Rattle.object_file.specs.Kinds.{kind_of}
use Rattle.section_kinds.specs.declared.section_kind.EbpfSectionKind.{EbpfSectionKind}
use Rattle.section_kinds.specs.declared.section_kind.EbpfSectionKind.TheVariants as kind
use Rattle.object_maps.specs.Faults.{MapFault, BadDefinition}
use Rattle.object_maps.specs.LegacyMaps.{section_name}

-- BPF_MAP_TYPE_ARRAY.
abbrev pub array_type : ℕ
array_type = 2

-- Programs can't write constants: BPF_F_RDONLY_PROG.
abbrev pub flags_of_kind : EbpfSectionKind → ℕ
flags_of_kind kind.Rodata = 128
flags_of_kind _ = 0

-- One value with the size of the section (`sh_size`). The key is a 32-bit index.
abbrev pub data_words : Section → MapWords
data_words section = record {
  map_type = array_type;
  key_size = 4;
  value_size = section.size;
  max_entries = 1;
  map_flags = flags_of_kind (kind_of section);
  map_extra = 0;
  pinning = pinning.None;
  id = 0;
  btf_key_type_id = 0;
  btf_value_type_id = 0;
}

-- The variables of `.bss` begin as zero, those of the other kinds with the section's bytes.
abbrev pub contents_of_kind : Section → EbpfSectionKind → List ℕ
contents_of_kind section kind.Bss = replicate section.size 0
contents_of_kind section _ = unwrap_or section.contents []

abbrev pub data_contents : Section → List ℕ
data_contents section = contents_of_kind section (kind_of section)

abbrev pub data_map_view : Section → MapView
data_map_view section = record {
  is_btf = false;
  words = data_words section;
  inner = None;
  section_index = section.index;
  section_kind = kind_of section;
  symbol_index = None;
  contents = data_contents section;
}

abbrev pub data_map : Section → List (List ℕ × MapView)
data_map section =
    if nat_lt section.size (2 ^ 32) then (section_name section, data_map_view section) ∷ [] else []

-- The size doesn't fit in 32 bits.
abbrev pub data_map_faults : Section → List MapFault
data_map_faults section =
    if nat_lt section.size (2 ^ 32) then [] else BadDefinition (section_name section) ∷ []

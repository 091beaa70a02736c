-- The type relocations of an object, each with its instruction.
use Rattle.std.specs.Prelude.{ℕ, ◌+◌, List, map, Option, option_and_then, slice_get}
use Rattle.std.specs.List.{flat_map}
use Rattle.std.specs.Option.{option_map}
use Rattle.btf_ext.specs.SectionInfos.{SectionInfo}
use Rattle.btf_ext.specs.declared.record.bpf_core_relo.{bpf_core_relo}
use Rattle.object_parts.specs.Content.{FunctionContent, key_of}
use Rattle.slot_relocation.specs.Writes.{index_of_slot}
use Rattle.core_relocation.specs.Relocations.{SectionInfos, TypesGiven, function_holding, section_at}
use Rattle.kernel_reports.specs.declared.relocations.RelocatedSlot.{RelocatedSlot}
use Rattle.kernel_reports.specs.declared.relocations.RelocationAt.{RelocationAt}

-- The instruction of a relocation in a function.
abbrev pub place_in : bpf_core_relo → FunctionContent → Option RelocatedSlot
place_in r f =
    option_map (λ slot.
    record {
      key = key_of f;
      index = index_of_slot f r.insn_off;
      slot = slot;
      next = slice_get f.instructions (index_of_slot f r.insn_off + 1);
    }) (slice_get f.instructions (index_of_slot f r.insn_off))

-- The instruction of a relocation in the first function, by key, of its section that contains it.
abbrev pub place_at : TypesGiven → Option ℕ → bpf_core_relo → Option RelocatedSlot
place_at g section r =
    option_and_then (λ s. option_and_then (place_in r) (function_holding g.functions s r.insn_off))
    section

-- A relocation of a section info, given the offset of its section's name.
abbrev pub relocation_at : TypesGiven → ℕ → Option ℕ → bpf_core_relo → RelocationAt
relocation_at g name section r = record {
  name_offset = name;
  asked = r;
  place = place_at g section r;
}

abbrev pub relocations_in : TypesGiven → SectionInfo bpf_core_relo → List RelocationAt
relocations_in g x = map (relocation_at g x.name_offset (section_at g x.name_offset)) x.records

-- The relocations of section infos, one section info after another.
abbrev pub relocations_of : TypesGiven → SectionInfos → List RelocationAt
relocations_of g section_infos = flat_map (relocations_in g) section_infos

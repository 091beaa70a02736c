-- The slot that exactly one type relocation writes ("Instruction encoding"; `bpf_core_patch_insn`,
-- tools/lib/bpf/relo_core.c).
use Rattle.std.specs.Prelude.{◌≡◌, ◌⊎◌, ℕ, ◌+◌, ◌%◌, ◌&&◌, Bool, true, false, nat_lt, pos, slice_get, Some, Ok}
use Rattle.btf_ext.specs.SectionInfos.{SectionInfo}
use Rattle.btf_ext.specs.declared.record.bpf_core_relo.{bpf_core_relo}
use Rattle.core_patch.specs.Instructions.{high_word, low_word, poison}
use Rattle.core_resolve.specs.declared.relocation.RelocationOutcome.{RelocationOutcome}
use Rattle.core_resolve.specs.declared.resolved.Resolved.{Resolved}
use Rattle.core_resolve.specs.declared.resolved.Resolved.TheVariants.{Poison, Value}
use Rattle.core_relocation.specs.Relocations.{SectionInfos, TypesGiven, function_holding, record_outcome, section_at}
use Rattle.ebpf_items.specs.declared.instruction.bpf_insn.{bpf_insn}
use Rattle.object_parts.specs.Content.{FunctionContent, key_of}
use Rattle.slot_relocation.specs.Writes.{index_of_slot}

-- Whether an instruction is a load or a store with an offset: BPF_LDX 1, BPF_ST 2, BPF_STX 3.
abbrev pub has_offset : bpf_insn → Bool
has_offset s = nat_lt 0 (s.code % 8) && nat_lt (s.code % 8) 4

-- A value is in the offset of a load or a store. In other instructions its low word is in the
-- immediate.
abbrev pub HasInField : Bool → bpf_insn → ℕ → Type 0
HasInField true s value = s.off ≡ pos value
HasInField false s value = s.imm ≡ low_word value

-- A slot carries an outcome: its value in the field of the instruction's class, or poison.
abbrev pub CarriesOutcome : Resolved → bpf_insn → Type 0
CarriesOutcome (Value v) s = HasInField (has_offset s) s v.value
CarriesOutcome Poison s = s ≡ poison

-- The second slot of a load of 64 bits carries an outcome: the high word of its value, or poison.
abbrev pub NextCarries : Resolved → bpf_insn → Type 0
NextCarries (Value v) s = s.imm ≡ high_word v.value
NextCarries Poison s = s ≡ poison

-- A slot of a function carries the outcome of a relocation in the kernel's types. The relocation is
-- a record of a section info for the function's section, and the function holds its offset.
pub record CarriesType (g : TypesGiven) (section_infos : SectionInfos) (f : FunctionContent)
    (place : ℕ) (s : bpf_insn) : Type 0 where
  pub index : ℕ
  pub section_info : SectionInfo bpf_core_relo
  pub among : slice_get section_infos index ≡ Some section_info
  pub number : ℕ
  pub relocation : bpf_core_relo
  pub within : slice_get section_info.records number ≡ Some relocation
  pub section : ℕ
  pub named : section_at g section_info.name_offset ≡ Some section
  pub function : FunctionContent
  pub holds : function_holding g.functions section relocation.insn_off ≡ Some function
  pub here : key_of f ≡ key_of function
  pub outcome : RelocationOutcome
  pub resolved : record_outcome g relocation ≡ Ok outcome
  pub carried : ((index_of_slot f relocation.insn_off ≡ place)
      × CarriesOutcome outcome.outcome s)
      ⊎ ((index_of_slot f relocation.insn_off + 1 ≡ place) × NextCarries outcome.outcome s)

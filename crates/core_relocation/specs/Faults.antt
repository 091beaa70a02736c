-- The faults of type relocations.
use Rattle.std.specs.Prelude.{◌≡◌, ◌⊎◌, ℕ, List, [], ◌∷◌, Option, None, Some, Err}
use Rattle.core_spec.specs.declared.error.AccessError.{AccessError}
use Rattle.core_spec.specs.declared.error.AccessError.TheVariants as access
use Rattle.btf_ext.specs.declared.record.bpf_core_relo.{bpf_core_relo}
use Rattle.btf_records.specs.declared.error.BtfError.TheVariants as btf
use Rattle.object_parts.specs.Content.{FunctionContent}
use Rattle.slot_relocation.specs.Writes.{HasFaultAmong}
use Rattle.string_table.specs.Texts.{text_at}
use Rattle.core_resolve.specs.declared.error.TypeRelocationError.{TypeRelocationError}
use Rattle.core_resolve.specs.declared.error.TypeRelocationError.TheVariants as match
use Rattle.core_relocation.specs.Relocations.{SectionInfos, TypesGiven, function_holding, record_outcome, section_at, section_named}
use Rattle.core_relocation.specs.Writes.{type_rule, types_inside}
use Rattle.relocation_errors.specs.declared.type_relocations.BtfRelocationCause.{BtfRelocationCause}
use Rattle.relocation_errors.specs.declared.type_relocations.BtfRelocationCause.TheVariants as cause
use Rattle.core_patch.specs.declared.instruction.WriteError.{WriteError}
use Rattle.core_patch.specs.declared.instruction.WriteError.TheVariants as write
use Rattle.core_relocation.specs.declared.placed_relocation.PlacedRelocation.{PlacedRelocation}

-- ---- Causes for the errors of other crates

abbrev pub OfAccess : AccessError → BtfRelocationCause → Type 0
OfAccess access.InvalidAccessString (cause.InvalidAccessString text) = Unit {0}
OfAccess (access.InvalidAccessIndex place len) (cause.InvalidAccessIndex path spec index of error) =
    Unit {0}
OfAccess (access.InvalidRelocationKindForType id) (cause.InvalidRelocationKindForType number kind type error) =
    Unit {0}
OfAccess access.MaximumNestingLevelReached (cause.MaximumNestingLevelReached name) = Unit {0}
OfAccess (access.BtfError e) (cause.BtfError f) = f ≡ e
OfAccess _ _ = ⊥

abbrev pub OfMatch : TypeRelocationError → BtfRelocationCause → Type 0
OfMatch (match.Local e) c = OfAccess e c
OfMatch (match.Kernel place e) c = OfAccess e c
OfMatch (match.UnreadableName place offset) (cause.BtfError e) = e ≡ btf.InvalidStringOffset offset
OfMatch match.ConflictingCandidates (cause.ConflictingCandidates name candidates) = Unit {0}
OfMatch match.MissingTargetDefinition (cause.MissingTargetDefinition kind id index) = Unit {0}
OfMatch _ _ = ⊥

abbrev pub OfWrite : WriteError → BtfRelocationCause → Type 0
OfWrite write.NoNextSlot (cause.InvalidInstructionIndex index slots number) = Unit {0}
OfWrite write.NoNextPoison (cause.InvalidInstructionIndex index slots number) = Unit {0}
OfWrite write.SourceRegister (cause.InvalidInstruction number index error) = Unit {0}
OfWrite write.LargeOffset (cause.InvalidInstruction number index error) = Unit {0}
OfWrite write.OtherWidth (cause.InvalidInstruction number index error) = Unit {0}
OfWrite write.OtherClass (cause.InvalidInstruction number index error) = Unit {0}
OfWrite _ _ = ⊥

-- ---- Faults of a section info, of a relocation, and of its write

-- The name of a section info can't be read, or the file has no section with this name.
abbrev pub FaultOfSectionInfo : TypesGiven → ℕ → BtfRelocationCause → Type 0
FaultOfSectionInfo g name (cause.BtfError e) =
    (e ≡ btf.InvalidStringOffset name) × (text_at g.local.strings name ≡ None)
FaultOfSectionInfo g name cause.SectionNotFound =
    (text : List ℕ)
    × (text_at g.local.strings name ≡ Some text)
    × (section_named g.file text ≡ None)
FaultOfSectionInfo g name _ = ⊥

-- No function in the section info's section holds the instruction.
abbrev pub LacksFunction : TypesGiven → Option ℕ → bpf_core_relo → BtfRelocationCause → Type 0
LacksFunction g section r cause.FunctionNotFound =
    (s : ℕ) × (section ≡ Some s) × (function_holding g.functions s r.insn_off ≡ None)
LacksFunction g section r _ = ⊥

-- A relocation can't be resolved in the kernel's types.
abbrev pub LacksOutcome : TypesGiven → bpf_core_relo → BtfRelocationCause → Type 0
LacksOutcome g r c = (e : TypeRelocationError) × (record_outcome g r ≡ Err e) × OfMatch e c

-- Some relocation of a section info has a fault.
abbrev pub RecordsFault : TypesGiven → Option ℕ → List bpf_core_relo → BtfRelocationCause → Type 0
RecordsFault g section [] c = ⊥
RecordsFault g section (r ∷ rs) c =
    LacksFunction g section r c ⊎ LacksOutcome g r c ⊎ RecordsFault g section rs c

-- Some section info has a fault. A section info without relocations can have one too.
abbrev pub SectionInfosFault : TypesGiven → SectionInfos → BtfRelocationCause → Type 0
SectionInfosFault g [] c = ⊥
SectionInfosFault g (x ∷ xs) c =
    FaultOfSectionInfo g x.name_offset c
    ⊎ RecordsFault g (section_at g x.name_offset) x.records c
    ⊎ SectionInfosFault g xs c

-- The write of some function's relocation doesn't fit its instruction, computed from the slots
-- after the relocations before it.
abbrev pub WritesFault : (FunctionContent → List (ℕ × PlacedRelocation))
    → List ((ℕ × ℕ) × FunctionContent)
    → BtfRelocationCause
    → Type 0
WritesFault inside [] c = ⊥
WritesFault inside (f ∷ fs) c =
    ((offset : ℕ)
    × (e : WriteError)
    × HasFaultAmong type_rule f.1 (inside f.1) offset e
    × OfWrite e c)
    ⊎ WritesFault inside fs c

-- A fault of type relocations.
abbrev pub HasTypesFault : TypesGiven → SectionInfos → BtfRelocationCause → Type 0
HasTypesFault g section_infos c =
    SectionInfosFault g section_infos c ⊎ WritesFault (types_inside g section_infos) g.functions c

-- No fault of type relocations holds.
pub record CanBeRelocated (g : TypesGiven) (section_infos : SectionInfos) : Type 0 where
  pub none : (c : BtfRelocationCause) → HasTypesFault g section_infos c → ⊥

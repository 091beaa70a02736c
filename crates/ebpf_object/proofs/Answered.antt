-- The clauses of a call as one answer.
use Rattle.std.proofs.Common.{◌≢◌, ℕ, List, Ok, Err, Result}
use Rattle.std.specs.Prelude.{IfErr, OnOk}
use Rattle.core_relocation.specs.Faults.{CanBeRelocated, HasTypesFault}
use Rattle.core_relocation.specs.Laws.{IsAnswer}
use Rattle.core_relocation.specs.Relocations.{SectionInfos, TypesGiven}
use Rattle.core_relocation.specs.Writes.{AreRelocated}
use Rattle.object_parts.specs.Content.{FunctionContent}
use Rattle.relocation_errors.specs.declared.type_relocations.BtfRelocationCause.TheVariants.{OutOfMemory}
use Rattle.relocation_errors.specs.declared.type_relocations.BtfRelocationError.{BtfRelocationError}

pub is_answer : {T : Type 0} (g : TypesGiven) (section_infos : SectionInfos) (new : List ((ℕ × ℕ) × FunctionContent)) (result : Result T BtfRelocationError) → OnOk result (AreRelocated g section_infos new) → OnOk result (CanBeRelocated g section_infos)
    → IfErr result (λ e. e.error ≢ OutOfMemory → HasTypesFault g section_infos e.error) → IsAnswer section_infos new result g
is_answer g section_infos new (Ok done) relocated sound fault = (relocated, sound)
is_answer g section_infos new (Err e) relocated sound fault = fault

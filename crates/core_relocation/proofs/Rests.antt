-- The answer of type relocations rests on what they reach.
use Rattle.std.proofs.Common.{◌≢◌, ℕ, List, Ok, Err, Result}
use Rattle.std.specs.Prelude.{IfErr, OnOk}
use Rattle.btf_tables.specs.Tables.{Table}
use Rattle.object_parts.specs.Content.{FunctionContent}
use Rattle.core_resolve.specs.Laws.{OutcomesRest}
use Rattle.core_relocation.specs.Faults.{CanBeRelocated, HasTypesFault}
use Rattle.core_relocation.specs.Laws.{AgreeOnReach, IsAnswer, RelocationsRest, RestsOnReach, with_types_of}
use Rattle.core_relocation.specs.Relocations.{SectionInfos, TypesGiven}
use Rattle.core_relocation.specs.Writes.{AreRelocated}
use Rattle.relocation_errors.specs.declared.type_relocations.BtfRelocationCause.TheVariants.{OutOfMemory}
use Rattle.relocation_errors.specs.declared.type_relocations.BtfRelocationError.{BtfRelocationError}
use Rattle.core_relocation.proofs.Alike.{all-same, refused-same, relocated-same}

answer-there : {T : Type 0} → OutcomesRest → (g : TypesGiven) (section_infos : SectionInfos) (new : List ((ℕ × ℕ) × FunctionContent)) (result : Result T BtfRelocationError) (other : Table) → AgreeOnReach g.local other section_infos → IsAnswer section_infos new result g → IsAnswer section_infos new result (with_types_of g other)
answer-there outcomes g section_infos new (Ok done) other agree answer = (
  (relocated-same outcomes g other section_infos agree new).0 answer.0,
  record { none = λ c has. answer.1.none c ((refused-same outcomes g other section_infos agree c).1 has) },
)
answer-there outcomes g section_infos new (Err e) other agree answer = λ kept.
    (refused-same outcomes g other section_infos agree e.error).0 (answer kept)

pub relocations_rest : OutcomesRest → RelocationsRest
relocations_rest outcomes = record {
  placed = all-same outcomes;
  relocated = relocated-same outcomes;
  refused = refused-same outcomes;
  answered = λ g section_infos new result answer. record {
    alike = λ other agree. answer-there outcomes g section_infos new result other agree answer;
  };
}

-- The clauses of a call as one answer.
pub is_answer : {T : Type 0} (g : TypesGiven) (section_infos : SectionInfos) (new : List ((ℕ × ℕ) × FunctionContent)) (result : Result T BtfRelocationError) → OnOk result (AreRelocated g section_infos new) → OnOk result (CanBeRelocated g section_infos)
    → IfErr result (λ e. e.error ≢ OutOfMemory → HasTypesFault g section_infos e.error) → IsAnswer section_infos new result g
is_answer g section_infos new (Ok done) relocated sound fault = (relocated, sound)
is_answer g section_infos new (Err e) relocated sound fault = fault

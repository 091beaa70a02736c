-- The result of a single type relocation in a kernel's types.
use Rattle.std.specs.Prelude.{List, [], map, Option, None, Some, Result, Ok, Err}
use Rattle.btf_ext.specs.declared.record.bpf_core_relo.{bpf_core_relo}
use Rattle.btf_tables.specs.Tables.{Table}
use Rattle.core_resolve.specs.declared.error.TypeRelocationError.{TypeRelocationError}
use Rattle.core_resolve.specs.declared.relocation.RelocationOutcome.{RelocationOutcome}
use Rattle.core_patch.specs.Instructions.{patched}
use Rattle.core_patch.specs.Patches.{patch_of}
use Rattle.core_relocation.specs.Relocations.{TypesGiven, record_outcome, types_given}
use Rattle.kernel_reports.specs.declared.answers.RelocationAnswer.{RelocationAnswer}
use Rattle.kernel_reports.specs.declared.answers.RelocationAnswer.TheVariants.{Fault, Given, Unplaced}
use Rattle.kernel_reports.specs.declared.relocations.RelocatedSlot.{RelocatedSlot}
use Rattle.kernel_reports.specs.declared.relocations.RelocationAt.{RelocationAt}

-- The result of an outcome is a patch, and the object's instruction with the patch, if it can get
-- it.
abbrev pub answer_of : TypesGiven
    → RelocatedSlot
    → Result RelocationOutcome TypeRelocationError
    → RelocationAnswer
answer_of g place (Err e) = Fault e
answer_of g place (Ok o) =
    Given (patch_of g.local g.targets o)
    (patched place.slot place.next (patch_of g.local g.targets o))

-- A relocation without an instruction has no result.
abbrev pub answer_at : TypesGiven → bpf_core_relo → Option RelocatedSlot → RelocationAnswer
answer_at g r None = Unplaced
answer_at g r (Some place) = answer_of g place (record_outcome g r)

-- The result of a relocation, by the object's own types and a kernel's tables.
abbrev pub answer_to : Table → List Table → RelocationAt → RelocationAnswer
answer_to local kernel at = answer_at (types_given [] [] local kernel) at.asked at.place

-- The results of an object's relocations. An object without types has none.
abbrev pub answers_to : Option Table → List Table → List RelocationAt → List RelocationAnswer
answers_to None kernel rs = []
answers_to (Some local) kernel rs = map (answer_to local kernel) rs

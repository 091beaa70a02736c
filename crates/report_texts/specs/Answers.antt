-- Answers on relocations that are poison.
use Rattle.std.specs.Prelude.{Bool, true, false}
use Rattle.core_patch.specs.declared.instruction.WriteError.{WriteError}
use Rattle.core_patch.specs.declared.patch.Patch.{Patch}
use Rattle.core_patch.specs.declared.patch.Patch.TheVariants.{Poison, Value}
use Rattle.kernel_reports.specs.declared.answers.RelocationAnswer.{RelocationAnswer}
use Rattle.kernel_reports.specs.declared.answers.RelocationAnswer.TheVariants.{Fault, Given, Unplaced}
use Rattle.slot_relocation.specs.declared.outcome.Outcome.{Outcome}
use Rattle.slot_relocation.specs.declared.outcome.Outcome.TheVariants.{Refused, Skipped, Written}

-- Whether a patch leaves poison in its instruction, which may refuse it. None that is made in a
-- slot is skipped.
abbrev pub leaves_poison : Patch → Outcome WriteError → Bool
leaves_poison patch (Refused fault) = false
leaves_poison (Value value width) (Written write) = false
leaves_poison (Value value width) Skipped = true
leaves_poison Poison (Written write) = true
leaves_poison Poison Skipped = true

-- Whether the instruction of a relocation becomes poison.
abbrev pub is_poison : RelocationAnswer → Bool
is_poison Unplaced = false
is_poison (Fault error) = false
is_poison (Given patch written) = leaves_poison patch written

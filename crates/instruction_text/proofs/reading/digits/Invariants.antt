use Rattle.std.proofs.Common.{◌≡◌, length}
use Rattle.instruction_text.specs.Reading.{digits_from}
use Rattle.instruction_text.proofs.reading.digits.Given as goal

abbrev pub invariant-loop-left : goal.invariant-loop-left
invariant-loop-left l = digits_from l.value l.left ≡ digits_from 0 l.text

abbrev pub decreases-loop-left : goal.decreases-loop-left
decreases-loop-left l = length l.left

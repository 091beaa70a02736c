use Rattle.std.proofs.Common.{◌≡◌, length, map}
use Rattle.instruction_text.specs.Forms.{form_of}
use Rattle.instruction_text.specs.Reading.{read_in}
use Rattle.instruction_text.proofs.reading.read_in.Given as goal

abbrev pub invariant-loop-left : goal.invariant-loop-left
invariant-loop-left l = read_in (map form_of l.left) l.text ≡ read_in (map form_of l.rows) l.text

abbrev pub decreases-loop-left : goal.decreases-loop-left
decreases-loop-left l = length l.left

use Rattle.std.proofs.Common.{◌≡◌, length, map}
use Rattle.std.specs.Prelude.{find}
use Rattle.instruction_text.specs.Forms.{form_of}
use Rattle.instruction_text.specs.Texts.{takes}
use Rattle.instruction_text.proofs.forms.row_in.Given as goal

abbrev pub invariant-loop-left : goal.invariant-loop-left
invariant-loop-left l = find (takes l.parts) (map form_of l.left) ≡ find (takes l.parts) (map form_of l.rows)

abbrev pub decreases-loop-left : goal.decreases-loop-left
decreases-loop-left l = length l.left

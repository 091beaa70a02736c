use Rattle.std.proofs.Common.{◌≡◌, length, map}
use Rattle.instruction_text.specs.Forms.{form_of}
use Rattle.instruction_text.specs.Texts.{fields_of, filled, piece_of, pieces_of}
use Rattle.instruction_text.proofs.forms.filled.Given as goal

abbrev pub invariant-loop-letters : goal.invariant-loop-letters
invariant-loop-letters l = filled (map piece_of l.letters) l.from l.parts ≡ filled (pieces_of (form_of l.row)) l.from (fields_of (form_of l.row))

abbrev pub decreases-loop-letters : goal.decreases-loop-letters
decreases-loop-letters l = length l.letters

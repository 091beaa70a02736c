use Rattle.std.proofs.Common.{◌≡◌, length, map}
use Rattle.instruction_text.specs.Forms.{form_of}
use Rattle.instruction_text.specs.Reading.{after_pieces}
use Rattle.instruction_text.specs.Texts.{piece_of, pieces_of}
use Rattle.instruction_text.proofs.comparing.after_form.Given as goal

abbrev pub invariant-loop-letters : goal.invariant-loop-letters
invariant-loop-letters l = after_pieces (map piece_of l.letters) l.parts l.left ≡ after_pieces (pieces_of (form_of l.row)) l.parts l.text

abbrev pub decreases-loop-letters : goal.decreases-loop-letters
decreases-loop-letters l = length l.letters

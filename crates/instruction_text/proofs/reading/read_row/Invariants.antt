use Rattle.std.proofs.Common.{◌≡◌, length, map}
use Rattle.instruction_text.specs.Forms.{form_of}
use Rattle.instruction_text.specs.Reading.{read_pieces, state}
use Rattle.instruction_text.specs.Texts.{fields_of, piece_of, pieces_of}
use Rattle.instruction_text.proofs.reading.read_row.Given as goal

abbrev pub invariant-loop-letters : goal.invariant-loop-letters
invariant-loop-letters l = read_pieces (map piece_of l.letters) (state l.left l.parts) ≡ read_pieces (pieces_of (form_of l.row)) (state l.text (fields_of (form_of l.row)))

abbrev pub decreases-loop-letters : goal.decreases-loop-letters
decreases-loop-letters l = length l.letters

use Rattle.std.proofs.Common.{◌≡◌, ◌++◌, length, map}
use Rattle.std.specs.String.{string_bytes}
use Rattle.instruction_text.specs.Forms.{form_of}
use Rattle.instruction_text.specs.Texts.{piece_of, pieces_of, rendered}
use Rattle.instruction_text.proofs.writing.push_form.Given as goal

abbrev pub invariant-loop-letters : goal.invariant-loop-letters
invariant-loop-letters l = string_bytes l.text ++ rendered (map piece_of l.letters) l.parts ≡ string_bytes l.fn.text ++ rendered (pieces_of (form_of l.row)) l.parts

abbrev pub decreases-loop-letters : goal.decreases-loop-letters
decreases-loop-letters l = length l.letters

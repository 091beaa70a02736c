use Rattle.std.proofs.Common.{◌≡◌, ◌++◌, length}
use Rattle.std.specs.String.{string_bytes}
use Rattle.instruction_text.specs.Texts.{more_bytes}
use Rattle.instruction_text.proofs.writing.push_more_bytes.Given as goal

abbrev pub invariant-loop-left : goal.invariant-loop-left
invariant-loop-left l = string_bytes l.text ++ more_bytes l.left ≡ string_bytes l.fn.text ++ more_bytes l.bytes

abbrev pub decreases-loop-left : goal.decreases-loop-left
decreases-loop-left l = length l.left

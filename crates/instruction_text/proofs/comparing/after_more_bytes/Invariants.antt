use Rattle.std.proofs.Common.{◌≡◌, length}
use Rattle.instruction_text.specs.Reading.{after_front}
use Rattle.instruction_text.specs.Texts.{more_bytes}
use Rattle.instruction_text.proofs.comparing.after_more_bytes.Given as goal

abbrev pub invariant-loop-more : goal.invariant-loop-more
invariant-loop-more l = after_front (more_bytes l.more) l.left ≡ after_front (more_bytes l.bytes) l.text

abbrev pub decreases-loop-more : goal.decreases-loop-more
decreases-loop-more l = length l.more

use Rattle.hex.specs.Hex.{encode_lower}
use Rattle.watched.specs.Watched.{Sends}
use Rattle.plan_lines.specs.Words.{slot_bytes}
use Rattle.plan_lines.proofs.word_writing.send_slot_digits.Given as goal

-- Sending the digits of the remaining slots completes those of all slots.
abbrev pub invariant-loop-slot : goal.invariant-loop-slot
invariant-loop-slot g l =
    (last : _) → Sends g.W.Write.contents l.out last (encode_lower (slot_bytes l.slot-iterator)) → Sends g.W.Write.contents l.fn.out last (encode_lower (slot_bytes l.slots))

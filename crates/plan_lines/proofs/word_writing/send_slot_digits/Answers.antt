use Rattle.std.proofs.Common.{sym, subst}
use Rattle.hex.specs.Hex.{encode_lower}
use Rattle.watched.specs.Watched.{Sends, Sends-none, Sends-then}
use Rattle.plan_lines.specs.Words.{slot_bytes}
use Rattle.plan_lines.proofs.Written.{encode_lower-nil, slot_digits-first}
use Rattle.plan_lines.proofs.word_writing.send_slot_digits.Goals as goal

pub loop-slot-preserved : goal.loop-slot-preserved
loop-slot-preserved g c = λ last sent.
    c.loop-slot.invariant last
    (subst (λ left. Sends g.W.Write.contents c.loop-slot.out last (encode_lower (slot_bytes left))) (sym c.in-Some.ensures.steps)
    (rw (slot_digits-first c.in-Some.slot c.next.new.self) (Sends-then _ _ _ _ _ _ c.send_slot.ensures sent)))

pub returns : goal.returns
returns g c =
    c.loop-slot.invariant c.loop-slot.out
    (subst (λ left. Sends g.W.Write.contents c.loop-slot.out c.loop-slot.out (encode_lower (slot_bytes left))) (sym c.in-None.ensures.steps.0)
    (rw encode_lower-nil (Sends-none _ _)))

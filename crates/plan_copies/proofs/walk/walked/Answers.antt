use Rattle.std.proofs.Common.{◌<◌, length, sym, ◌∙◌, arith}
use Rattle.linker.specs.Linked.{unlinked}
use Rattle.plan_copies.proofs.Steps.{inside, one_more}
use Rattle.plan_copies.proofs.walk.walked.Goals as goal
use Rattle.plan_copies.proofs.walk.walked.Goals.{in-Some+in_ok-visit, in_default}

pub loop-slot-preserved : goal.loop-slot-preserved
loop-slot-preserved c =
    let slots = c.args.slots.now in
    let u = unlinked c.args.object.file.now c.args.object.text_sections.now.keys c.args.object.functions.now in
    let lt : c.loop-slot.slot < length slots = omega (arith, c.loop-slot-test.true, c.len-slot-end.ensures) in
    elim c.match-get.branch [
      | in-Some+in_ok-visit w ↦ rw (w.walk-is, w.in_ok-visit.ensures) (one_more u c.loop-slot.walk c.loop-slot.slot w.in-Some.linked slots _ c.loop-slot.invariant (sym c.get.ensures ∙ w.in-Some.is))
      | in_default w ↦ absurd (inside slots c.loop-slot.slot lt (sym c.get.ensures ∙ w.in_default.is))
    ]

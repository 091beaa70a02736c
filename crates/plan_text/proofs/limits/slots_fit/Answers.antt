use Rattle.std.proofs.Common.{sym, subst}
use Rattle.std.specs.List.{All}
use Rattle.std.proofs.lemmas.List.Elements.{All-cons, All-nil}
use Rattle.plan_text.specs.Content.{FitsSlot}
use Rattle.plan_text.proofs.limits.slots_fit.Goals as goal

pub loop-slot-preserved : goal.loop-slot-preserved
loop-slot-preserved c = λ fit.
    c.loop-slot.invariant (subst (All FitsSlot) (sym c.in-Some.ensures.steps) (All-cons FitsSlot c.in-Some.slot c.next.new.self c.slot_fits.ensures fit))

pub returns : goal.returns
returns c = c.loop-slot.invariant (subst (All FitsSlot) (sym c.in-None.ensures.steps.0) (All-nil FitsSlot))

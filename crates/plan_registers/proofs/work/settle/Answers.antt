use Rattle.std.proofs.Common.{refl}
use Rattle.plan_registers.specs.Work.{State, state_of}
use Rattle.plan_registers.proofs.Settling.{underway_popped, effort_falls}
use Rattle.plan_registers.proofs.work.settle.Goals as goal

pub follow_index-requires : goal.follow_index-requires
follow_index-requires c =
    let popped : State = record { facts = c.loop-index.work.facts.items; pending = c.pop.new.self.items } in
    underway_popped c.args.program.now c.args.calls.now (state_of c.loop-index.work) popped c.in-Some.index refl c.in-Some.ensures.items c.loop-index.invariant c.requires.calls

pub loop-index-smaller : goal.loop-index-smaller
loop-index-smaller c =
    let popped : State = record { facts = c.loop-index.work.facts.items; pending = c.pop.new.self.items } in
    effort_falls (state_of c.loop-index.work) popped (state_of c.follow_index.new.work) c.in-Some.index refl c.in-Some.ensures.items c.in_ok-follow_index.ensures.falls

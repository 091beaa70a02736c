use Rattle.std.proofs.Common.{take}
use Rattle.plan_registers.specs.Reach.{roots_at}
use Rattle.plan_registers.specs.Work.{Joins, state_of}
use Rattle.plan_registers.proofs.work.join_roots.Given as goal

abbrev pub invariant-loop-slot : goal.invariant-loop-slot
invariant-loop-slot l = Joins (state_of l.fn.work) (state_of l.work) (roots_at l.program (take l.slot-index l.slots))

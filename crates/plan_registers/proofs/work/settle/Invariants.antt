use Rattle.std.proofs.Common.{[]}
use Rattle.plan_registers.specs.Work.{IsUnderway, state_of, effort}
use Rattle.plan_registers.proofs.work.settle.Given as goal

abbrev pub invariant-loop-index : goal.invariant-loop-index
invariant-loop-index l = IsUnderway l.program (state_of l.work) []

abbrev pub decreases-loop-index : goal.decreases-loop-index
decreases-loop-index l = effort (state_of l.work)

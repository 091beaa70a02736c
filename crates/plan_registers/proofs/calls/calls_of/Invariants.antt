use Rattle.plan_registers.specs.Work.{AreCalls}
use Rattle.plan_registers.proofs.calls.calls_of.Given as goal

abbrev pub invariant-loop-position : goal.invariant-loop-position
invariant-loop-position l = AreCalls l.program l.calls.items l.position

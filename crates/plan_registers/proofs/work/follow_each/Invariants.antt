use Rattle.std.proofs.Common.{◌≤◌, drop}
use Rattle.plan_registers.specs.Work.{IsUnderway, effort, state_of}
use Rattle.plan_registers.proofs.work.follow_each.Given as goal

abbrev pub invariant-loop-position : goal.invariant-loop-position
invariant-loop-position l =
    record {
      underway : IsUnderway l.program (state_of l.work) (drop l.position-index l.positions);
      falls : effort (state_of l.work) ≤ effort (state_of l.fn.work);
    }

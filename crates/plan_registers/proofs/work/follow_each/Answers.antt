use Rattle.std.proofs.Common.{arith}
use Rattle.plan_registers.specs.Work.{state_of}
use Rattle.plan_registers.proofs.Settling.{each_next}
use Rattle.plan_registers.proofs.work.follow_each.Goals as goal

pub loop-position-preserved : goal.loop-position-preserved
loop-position-preserved c =
    let fewer = c.in_ok-follow_from.ensures.falls in
    let before = c.loop-position.invariant.falls in
    record {
      underway = each_next c.args.program.now (state_of c.loop-position.work) (state_of c.follow_from.new.work) c.args.positions.now c.loop-position.position-index _ c.loop-position-test.true c.loop-position.invariant.underway c.in_ok-follow_from.ensures;
      falls = omega (arith, fewer, before);
    }

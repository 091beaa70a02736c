use Rattle.plan_values.proofs.Within.{meet_step}
use Rattle.plan_values.proofs.known.meet.Goals as goal

pub loop-i-preserved : goal.loop-i-preserved
loop-i-preserved c =
    record {
      met = meet_step c.args.a c.args.b c.loop-i.met c.loop-i.i _ c.loop-i.invariant.met c.loop-i-test.true c.loop-i.invariant.left c.loop-i.invariant.right c.meet.ensures;
      left = c.loop-i.invariant.left;
      right = c.loop-i.invariant.right;
    }

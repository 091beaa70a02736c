use Rattle.std.proofs.Common.{arith, refl}
use Rattle.plan_values.proofs.Within.{copied_all, copy_step}
use Rattle.plan_values.proofs.known.forgotten.Goals as goal

pub loop-i-preserved : goal.loop-i-preserved
loop-i-preserved c =
    record {
      new = copy_step c.args.known.now c.loop-i.new c.loop-i.i _ _ c.loop-i.invariant.new c.loop-i-test.true c.loop-i.invariant.size refl;
      size = c.loop-i.invariant.size;
    }

pub returns : goal.returns
returns c = copied_all c.args.known.now c.loop-i.new c.loop-i.i c.loop-i.invariant.new (omega (arith, c.loop-i-test.false, c.loop-i.auto.i-end)) c.loop-i.invariant.size

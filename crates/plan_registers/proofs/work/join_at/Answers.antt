use Rattle.std.proofs.Common.{arith}
use Rattle.std.proofs.lemmas.Int.{ints}
use Rattle.std.proofs.lemmas.Result.{on_ok_weaker}
use Rattle.plan_registers.specs.Work.{state_of}
use Rattle.plan_registers.proofs.Joining.{join_low, join_high, join_inside}
use Rattle.plan_registers.proofs.work.join_at.Goals as goal

pub returns-then-to-lt0 : goal.returns-then-to-lt0
returns-then-to-lt0 c = join_low (state_of c.args.work.now) c.args.to c.args.known (omega (arith, ints))

pub returns-then-to-len : goal.returns-then-to-len
returns-then-to-len c = join_high (state_of c.args.work.now) c.args.to c.args.known (omega (arith, ints))

pub returns : goal.returns
returns c = on_ok_weaker c.join.result (λ j. join_inside (state_of c.args.work.now) (state_of c.join.new.work) c.args.to _ c.args.known (omega (arith, ints)) j) c.join.ensures

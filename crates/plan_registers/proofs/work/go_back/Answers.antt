use Rattle.std.proofs.Common.{arith}
use Rattle.std.proofs.lemmas.Int.{ints}
use Rattle.std.proofs.lemmas.Result.{on_ok_weaker}
use Rattle.plan_registers.specs.Work.{state_of}
use Rattle.plan_registers.proofs.Following.{join_back_with, join_no_result}
use Rattle.plan_registers.proofs.work.go_back.Goals as goal

pub returns-in_default : goal.returns-in_default
returns-in_default c = join_no_result (state_of c.args.work.now) c.args.program.now c.args.position c.args.known.now c.args.given c.in_default.is

pub returns : goal.returns
returns c =
    on_ok_weaker c.go.result
    (λ j. join_back_with (state_of c.args.work.now) (state_of c.go.new.work) c.args.program.now c.args.position c.args.known.now c.in-Some.there c.after_return-new.result c.args.given _ c.in-Some.is c.after_return-new.ensures (omega (arith, ints)) j)
    c.go.ensures

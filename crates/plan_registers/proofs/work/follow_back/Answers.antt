use Rattle.std.proofs.Common.{sym, ◌∙◌}
use Rattle.std.proofs.lemmas.Result.{on_ok_weaker}
use Rattle.plan_registers.specs.Work.{state_of}
use Rattle.plan_registers.proofs.Following.{join_back, join_no_back}
use Rattle.plan_registers.proofs.work.follow_back.Goals as goal

pub returns-then-is_static_call : goal.returns-then-is_static_call
returns-then-is_static_call c =
    on_ok_weaker c.go_back.result
    (λ j. join_back (state_of c.args.work.now) (state_of c.go_back.new.work) c.args.program.now c.args.slot c.args.position c.args.known.now c.args.given (sym c.is_static_call.ensures ∙ c.if-is_static_call.true) j)
    c.go_back.ensures

pub returns : goal.returns
returns c = join_no_back (state_of c.args.work.now) c.args.program.now c.args.slot c.args.position c.args.known.now c.args.given (sym c.is_static_call.ensures ∙ c.if-is_static_call.false)

use Rattle.std.proofs.Common.{sym, ◌∙◌}
use Rattle.std.proofs.lemmas.Result.{on_ok_weaker}
use Rattle.plan_registers.specs.Work.{state_of}
use Rattle.plan_registers.proofs.Following.{join_end, join_no_end}
use Rattle.plan_registers.proofs.work.follow_end.Goals as goal

pub returns-in-Some : goal.returns-in-Some
returns-in-Some c =
    on_ok_weaker c.join_result.result
    (λ j. join_end (state_of c.args.work.now) (state_of c.join_result.new.work) c.args.program.now c.args.slot c.args.position c.args.known.now c.in-Some.value (sym c.result_value.ensures ∙ c.in-Some.is) j)
    c.join_result.ensures

pub returns-in-None : goal.returns-in-None
returns-in-None c = join_no_end (state_of c.args.work.now) c.args.program.now c.args.slot c.args.position c.args.known.now (sym c.result_value.ensures ∙ c.in-None.is)

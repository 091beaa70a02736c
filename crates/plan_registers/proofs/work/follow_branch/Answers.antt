use Rattle.std.proofs.Common.{sym, ◌∙◌}
use Rattle.std.proofs.lemmas.Result.{on_ok_weaker}
use Rattle.plan_registers.specs.Work.{state_of}
use Rattle.plan_registers.proofs.Following.{join_branch, join_branch_not}
use Rattle.plan_registers.proofs.work.follow_branch.Goals as goal

pub returns-then-allows : goal.returns-then-allows
returns-then-allows c =
    on_ok_weaker c.follow_along.result
    (λ j. join_branch (state_of c.args.work.now) (state_of c.follow_along.new.work) c.args.program.now c.args.slot c.args.position c.args.known c.args.decision c.args.taken (sym c.allows.ensures ∙ c.if-allows.true) j)
    c.follow_along.ensures

pub returns : goal.returns
returns c = join_branch_not (state_of c.args.work.now) c.args.program.now c.args.slot c.args.position c.args.known c.args.decision c.args.taken (sym c.allows.ensures ∙ c.if-allows.false)

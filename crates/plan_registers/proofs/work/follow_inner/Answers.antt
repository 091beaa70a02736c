use Rattle.std.proofs.lemmas.Result.{on_ok_weaker}
use Rattle.plan_registers.specs.Work.{state_of}
use Rattle.plan_registers.proofs.Following.{join_inner}
use Rattle.plan_registers.proofs.work.follow_inner.Goals as goal

pub returns : goal.returns
returns c =
    on_ok_weaker c.follow_branch-2.result
    (λ j. join_inner (state_of c.args.work.now) (state_of c.follow_branch.new.work) (state_of c.follow_branch-2.new.work) c.args.program.now c.args.slot c.args.next c.args.position c.args.known.now c.after-new.result c.decided-decision.result c.after-new.ensures c.decided-decision.ensures c.in_ok-follow_branch.ensures j)
    c.follow_branch-2.ensures

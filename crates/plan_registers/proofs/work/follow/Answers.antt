use Rattle.std.proofs.lemmas.Result.{on_ok_weaker}
use Rattle.plan_registers.specs.Work.{state_of}
use Rattle.plan_registers.proofs.Following.{join_ways}
use Rattle.plan_registers.proofs.work.follow.Goals as goal

pub returns : goal.returns
returns c =
    on_ok_weaker c.follow_back.result
    (λ j. join_ways (state_of c.args.work.now) (state_of c.follow_inner.new.work) (state_of c.follow_entry.new.work) (state_of c.follow_end.new.work) (state_of c.follow_back.new.work) c.args.program.now c.args.slot c.args.next c.args.position c.args.known.now c.args.given c.in_ok-follow_inner.ensures c.in_ok-follow_entry.ensures c.in_ok-follow_end.ensures j)
    c.follow_back.ensures

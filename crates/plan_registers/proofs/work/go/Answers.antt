use Rattle.std.proofs.Common.{length, arith}
use Rattle.std.proofs.lemmas.Int.{ints}
use Rattle.std.proofs.lemmas.Result.{on_ok_weaker}
use Rattle.plan_registers.specs.Work.{state_of}
use Rattle.plan_registers.proofs.Following.{join_going, same_index}
use Rattle.plan_registers.proofs.work.go.Goals as goal

pub returns : goal.returns
returns c =
    let index_is = same_index c.index_in.result c.len.result (length c.args.program.now.slots) _ c.args.to c.index_in.ensures c.len.ensures (omega (arith, ints)) in
    on_ok_weaker c.leave.result
    (λ j. join_going (state_of c.args.work.now) (state_of c.join_slot.new.work) (state_of c.leave.new.work) c.args.program.now c.args.position _ c.args.to c.index_in.result c.args.known (omega (arith, ints)) index_is c.in_ok-join_slot.ensures j)
    c.leave.ensures

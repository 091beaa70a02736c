use Rattle.std.proofs.Common.{length, arith, sym, ◌∙◌}
use Rattle.std.proofs.lemmas.Int.{ints}
use Rattle.plan_registers.specs.Work.{state_of}
use Rattle.plan_registers.proofs.Following.{join_slot_none, same_index}
use Rattle.plan_registers.proofs.work.join_slot.Goals as goal

pub returns-in-None : goal.returns-in-None
returns-in-None c =
    join_slot_none (state_of c.args.work.now) c.args.program.now c.args.to c.args.known
    (sym (same_index c.index_in.result c.len.result (length c.args.program.now.slots) _ c.args.to c.index_in.ensures c.len.ensures (omega (arith, ints))) ∙ c.in-None.is)

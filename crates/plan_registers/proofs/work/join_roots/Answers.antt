use Rattle.std.proofs.Common.{arith}
use Rattle.std.proofs.lemmas.Int.{ints}
use Rattle.plan_registers.specs.Work.{state_of}
use Rattle.plan_registers.proofs.Joining.{joins_none}
use Rattle.plan_registers.proofs.Settling.{join_root}
use Rattle.plan_registers.proofs.work.join_roots.Goals as goal

pub loop-slot-init : goal.loop-slot-init
loop-slot-init c = joins_none (state_of c.args.work.now)

pub loop-slot-preserved : goal.loop-slot-preserved
loop-slot-preserved c = join_root c.args.program.now (state_of c.args.work.now) (state_of c.loop-slot.work) (state_of c.join_slot.new.work) c.args.slots.now c.loop-slot.slot-index 0 _ c.any_entry.result c.loop-slot-test.true (omega (arith, ints)) c.any_entry.ensures c.loop-slot.invariant c.in_ok-join_slot.ensures

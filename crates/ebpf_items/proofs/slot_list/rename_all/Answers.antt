use Rattle.ebpf_items.specs.Instruction.{with_older_helper}
use Rattle.ebpf_items.proofs.Renamed.{map_step}
use Rattle.ebpf_items.proofs.slot_list.rename_all.Goals as goal

pub loop-slot-preserved : goal.loop-slot-preserved
loop-slot-preserved c = rw c.with_older_helper.ensures (map_step with_older_helper _ _ _ _ c.loop-slot-test.true c.loop-slot.invariant)

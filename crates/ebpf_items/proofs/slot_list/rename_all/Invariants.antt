use Rattle.std.proofs.Common.{◌≡◌, ◌++◌, take, drop, map}
use Rattle.ebpf_items.specs.Instruction.{with_older_helper}
use Rattle.ebpf_items.proofs.slot_list.rename_all.Given as goal

abbrev pub invariant-loop-slot : goal.invariant-loop-slot
invariant-loop-slot l = l.slots ≡ map with_older_helper (take l.slot-index l.initial.slots) ++ drop l.slot-index l.initial.slots

use Rattle.std.proofs.Common.{◌≡◌, ◌++◌}
use Rattle.ebpf_items.specs.Slots.{file_slots}
use Rattle.ebpf_items.proofs.slot_list.FileSlots.append_to.Given as goal

abbrev pub invariant-loop-slot : goal.invariant-loop-slot
invariant-loop-slot l = (l.list.items ≡ l.initial.list.items ++ l.yielded) × (l.yielded ++ l.slot-iterator ≡ file_slots l.self)

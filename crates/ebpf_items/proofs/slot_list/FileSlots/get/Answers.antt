use Rattle.std.proofs.Common.{◌/◌, ◌<◌, length, arith}
use Rattle.ebpf_items.proofs.SlotLists.{length-file_slots, get-file_slots_as_read, get-file_slots_renamed}
use Rattle.ebpf_items.proofs.slot_list.FileSlots.get.Goals as goal

pub overflow_mul-index : goal.overflow_mul-index
overflow_mul-index c = omega (arith, length-file_slots c.args.self.now)

pub slot_at-slot-requires : goal.slot_at-slot-requires
slot_at-slot-requires c = omega (arith, length-file_slots c.args.self.now)

pub returns-then-self : goal.returns-then-self
returns-then-self c =
    let within : c.args.index < length c.args.self.now.bytes.now / 8 = omega (arith, length-file_slots c.args.self.now) in
    cc (get-file_slots_renamed c.args.self.now c.args.index c.if-self.true within)

pub returns-else-self : goal.returns-else-self
returns-else-self c =
    let within : c.args.index < length c.args.self.now.bytes.now / 8 = omega (arith, length-file_slots c.args.self.now) in
    cc (get-file_slots_as_read c.args.self.now c.args.index c.if-self.false within)

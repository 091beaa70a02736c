use Rattle.std.proofs.Common.{sym}
use Rattle.ebpf_items.proofs.SlotLists.{length-file_slots}
use Rattle.ebpf_items.proofs.slot_list.FileSlots.len.Goals as goal

pub returns : goal.returns
returns c = sym (length-file_slots c.args.self.now)

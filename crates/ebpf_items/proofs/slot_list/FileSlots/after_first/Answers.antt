use Rattle.std.proofs.lemmas.List.{take_rest}
use Rattle.ebpf_items.proofs.SlotLists.{drop-file_slots}
use Rattle.ebpf_items.proofs.slot_list.FileSlots.after_first.Goals as goal

pub returns : goal.returns
returns c = drop-file_slots c.args.self _ c.requires (take_rest c.args.self.bytes.now 8)

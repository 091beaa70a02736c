use Rattle.std.proofs.Common.{◌∙◌, ap, map}
use Rattle.ebpf_items.specs.Instruction.{with_older_helper}
use Rattle.std.proofs.lemmas.List.{take_at}
use Rattle.ebpf_items.proofs.Renamed.{file_slots-marked}
use Rattle.ebpf_items.proofs.slot_list.Slots.rename_helpers.Goals as goal
use Rattle.ebpf_items.proofs.slot_list.Slots.rename_helpers.Goals.{in-File, in-Own}

pub returns : goal.returns
returns c = elim c.match-self.branch [
  | in-File w ↦ rw (w.self-inside-is, ← c.self.view_is, w.in-File.is) (file_slots-marked w.in-File.file)
  | in-Own w ↦ rw (w.self-inside-is, ← c.self.view_is, w.in-Own.is) (take_at _ _ _ (w.rename_all.auto.slots ∙ w.deref_mut.ensures.len) ∙ w.rename_all.ensures ∙ ap (map with_older_helper) w.deref_mut.ensures.value)
]

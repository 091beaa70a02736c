-- The slots of a function, as they are read.
use Rattle.std.specs.Prelude.{Bool, true, false, List, map}
use Rattle.ebpf_items.specs.declared.instruction.bpf_insn.{bpf_insn}
use Rattle.ebpf_items.specs.declared.slot_list.FileSlots.{FileSlots}
use Rattle.ebpf_items.specs.declared.slot_list.Body.{Body}
use Rattle.ebpf_items.specs.declared.slot_list.Body.TheVariants.{File, Own}
use Rattle.ebpf_items.specs.declared.slot_list.Rest.{Rest}
use Rattle.ebpf_items.specs.declared.slot_list.Rest.TheVariants as rest
use Rattle.ebpf_items.specs.Instruction.{slots_of, with_older_helper}

-- The slots, with newer helpers replaced by older ones iff the mark is set.
abbrev pub renamed_where : Bool → List bpf_insn → List bpf_insn
renamed_where true slots = map with_older_helper slots
renamed_where false slots = slots

-- The slots that a part of the file's bytes encodes.
abbrev pub file_slots : FileSlots → List bpf_insn
file_slots f = renamed_where f.is_renamed (slots_of f.bytes.now)

abbrev pub body_slots : Body → List bpf_insn
body_slots (File f) = file_slots f
body_slots (Own slots) = slots.items

-- The slots that an iterator has yet to yield.
abbrev pub rest_slots : Rest → List bpf_insn
rest_slots (rest.File f) = file_slots f
rest_slots (rest.Own slots) = slots.now

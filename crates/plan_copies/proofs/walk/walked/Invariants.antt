use Rattle.std.proofs.Common.{◌≡◌, drop}
use Rattle.linker.specs.Linked.{unlinked}
use Rattle.plan_copies.specs.Copies.{copies_from, walk_of}
use Rattle.plan_copies.proofs.walk.walked.Given as goal

abbrev pub invariant-loop-slot : goal.invariant-loop-slot
invariant-loop-slot l =
    let u = unlinked l.object.file.now l.object.text_sections.now.keys l.object.functions.now in
    copies_from u l.walk l.slot (drop l.slot l.slots) ≡ copies_from u (walk_of l.fn.own) 0 l.slots

use Rattle.std.proofs.Common.{length, refl}
use Rattle.linker.specs.Linked.{unlinked}
use Rattle.plan_copies.proofs.Covers.{are_copies}
use Rattle.plan_copies.proofs.walk.copies_of.Goals as goal

pub returns-clause-cover : goal.returns-clause-cover
returns-clause-cover c =
    let u = unlinked c.args.object.file.now c.args.object.text_sections.now.keys c.args.object.functions.now in
    are_copies c.args.own (length c.args.slots.now) c.in_ok-copies.copies.items u c.args.slots.now c.in_ok-copies.ensures refl

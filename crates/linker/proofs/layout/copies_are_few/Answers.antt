use Rattle.linker.proofs.LayoutLengths.{one_of_others, two_of_own}
use Rattle.linker.proofs.layout.copies_are_few.Goals as goal

pub returns : goal.returns
returns c = record { own = two_of_own; others = one_of_others }

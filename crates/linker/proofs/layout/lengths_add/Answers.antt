use Rattle.linker.proofs.LayoutLengths.{lengths_add}
use Rattle.linker.proofs.layout.lengths_add.Goals as goal

pub returns : goal.returns
returns c = record { each = lengths_add }

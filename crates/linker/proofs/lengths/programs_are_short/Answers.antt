use Rattle.linker.proofs.Short.{copies, short}
use Rattle.linker.proofs.lengths.programs_are_short.Goals as goal

pub returns : goal.returns
returns c = record { each = short c.lengths_add.ensures; copies = copies }

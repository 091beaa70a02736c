use Rattle.linker.proofs.Unique.{only}
use Rattle.linker.proofs.layout.layout_is_unique.Goals as goal

pub returns : goal.returns
returns c = record { same = only }

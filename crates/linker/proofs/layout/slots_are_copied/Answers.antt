use Rattle.linker.proofs.Flat.{fetch}
use Rattle.linker.proofs.layout.slots_are_copied.Goals as goal

pub returns : goal.returns
returns c = record { each = λ t own ks. fetch t own ks ks }

use Rattle.linker.proofs.Same.{visits_same}
use Rattle.linker.proofs.layout.linked_visits_same.Goals as goal

pub returns : goal.returns
returns c = record { each = visits_same }

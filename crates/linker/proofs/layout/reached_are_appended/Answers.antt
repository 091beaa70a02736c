use Rattle.linker.proofs.Reach.{are_reached}
use Rattle.linker.proofs.layout.reached_are_appended.Goals as goal

pub returns : goal.returns
returns c = record { each = are_reached }

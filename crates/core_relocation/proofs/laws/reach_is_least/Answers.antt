use Rattle.core_relocation.proofs.Reach.{reach_is_least}
use Rattle.core_relocation.proofs.laws.reach_is_least.Goals as goal

pub returns : goal.returns
returns c = reach_is_least

use Rattle.core_relocation.proofs.Rests.{relocations_rest}
use Rattle.core_relocation.proofs.laws.relocations_rest.Goals as goal

pub returns : goal.returns
returns c = relocations_rest c.outcomes_rest.ensures

use Rattle.core_spec.proofs.PathsAlike.{paths_rest}
use Rattle.core_spec.proofs.laws.paths_rest.Goals as goal

pub returns : goal.returns
returns c = paths_rest

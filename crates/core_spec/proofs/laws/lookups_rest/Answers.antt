use Rattle.core_spec.proofs.LookupsAlike.{lookups_rest}
use Rattle.core_spec.proofs.laws.lookups_rest.Goals as goal

pub returns : goal.returns
returns c = lookups_rest

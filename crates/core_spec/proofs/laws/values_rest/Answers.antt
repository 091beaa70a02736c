use Rattle.core_spec.proofs.ValuesAlike.{values_rest}
use Rattle.core_spec.proofs.laws.values_rest.Goals as goal

pub returns : goal.returns
returns c = values_rest c.lookups_rest.ensures

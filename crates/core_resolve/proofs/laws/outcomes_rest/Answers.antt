use Rattle.core_resolve.proofs.OutcomesAlike.{outcomes_rest}
use Rattle.core_resolve.proofs.laws.outcomes_rest.Goals as goal

pub returns : goal.returns
returns c = outcomes_rest c.lookups_rest.ensures c.paths_rest.ensures c.values_rest.ensures c.matches_rest.ensures

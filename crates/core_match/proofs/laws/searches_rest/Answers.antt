use Rattle.core_match.proofs.SearchesAlike.{searches_rest}
use Rattle.core_match.proofs.laws.searches_rest.Goals as goal

pub returns : goal.returns
returns c = searches_rest c.comparisons_rest.ensures

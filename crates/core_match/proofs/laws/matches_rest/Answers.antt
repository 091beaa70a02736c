use Rattle.core_match.proofs.MatchesAlike.{matches_rest}
use Rattle.core_match.proofs.laws.matches_rest.Goals as goal

pub returns : goal.returns
returns c = matches_rest c.lookups_rest.ensures c.comparisons_rest.ensures c.searches_rest.ensures

use Rattle.core_match.proofs.Nesting.{never_decides}
use Rattle.core_match.proofs.laws.nesting_never_decides.Goals as goal

pub returns : goal.returns
returns c = never_decides

use Rattle.core_resolve.proofs.WantedCandidates.{paths_refused}
use Rattle.core_resolve.proofs.matcher.TypeMatcher.found_paths.Goals as goal

pub returns-in_err-found-clause-refused : goal.returns-in_err-found-clause-refused
returns-in_err-found-clause-refused c =
    paths_refused c.args.kind c.args.self.now.local c.args.path.now c.args.self.now.targets _ _ c.requires c.in_err-found.ensures.refused c.from_residual.ensures.1

use Rattle.core_resolve.proofs.FoundPaths.{path_refused}
use Rattle.core_resolve.proofs.paths.paths_of.Goals as goal

pub returns-in_err-add_path-clause-refused : goal.returns-in_err-add_path-clause-refused
returns-in_err-add_path-clause-refused c =
    path_refused c.args.subject c.args.local.now c.args.path.now c.args.targets.now c.loop-candidate.paths.items c.args.candidates.now c.loop-candidate.candidate-index _ _ c.in_err-add_path.field-0.0 c.loop-candidate-test.true c.loop-candidate.invariant c.in_err-add_path.ensures.refused c.from_residual.ensures.1

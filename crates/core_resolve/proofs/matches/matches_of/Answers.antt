use Rattle.core_resolve.proofs.MatchesOf.{candidate_refused}
use Rattle.core_resolve.proofs.matches.matches_of.Goals as goal

pub returns-in_err-_found-clause-refused : goal.returns-in_err-_found-clause-refused
returns-in_err-_found-clause-refused c =
    candidate_refused c.args.kind c.args.local.now c.args.path.now c.args.targets.now c.loop-candidate.matches.items c.args.candidates.now c.loop-candidate.candidate-index _ _ c.in_err-_found.field-0.0 c.loop-candidate-test.true c.loop-candidate.invariant c.in_err-_found.ensures.refused c.from_residual.ensures.1

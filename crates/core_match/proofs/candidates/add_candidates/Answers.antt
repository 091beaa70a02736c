use Rattle.core_match.specs.Candidates.{is_candidate, is_unreadable_at, unreadable}
use Rattle.core_match.proofs.FoundCandidates.{filter_on, find_on, type_refused}
use Rattle.core_match.proofs.candidates.add_candidates.Goals as goal

pub returns-in_err-add_candidate-clause-refused : goal.returns-in_err-add_candidate-clause-refused
returns-in_err-add_candidate-clause-refused c =
    type_refused (is_unreadable_at c.args.wanted.now c.args.targets.now) (unreadable c.args.targets.now) c.args.table c.args.type_ids.now c.loop-type_id.type_id-index _ _ c.in_err-add_candidate.field-0.0 c.loop-type_id-test.true c.loop-type_id.invariant.1 c.in_err-add_candidate.ensures.refused c.from_residual.ensures.1

pub loop-type_id-preserved : goal.loop-type_id-preserved
loop-type_id-preserved c =
    (filter_on (is_candidate c.args.wanted.now c.args.targets.now) c.args.table c.args.type_ids.now c.loop-type_id.type_id-index c.loop-type_id.found.items c.add_candidate.new.found.items _ c.loop-type_id-test.true c.loop-type_id.invariant.0 c.in_ok-add_candidate.ensures.value, find_on (is_unreadable_at c.args.wanted.now c.args.targets.now) c.args.table c.args.type_ids.now c.loop-type_id.type_id-index _ c.loop-type_id-test.true c.loop-type_id.invariant.1 c.in_ok-add_candidate.ensures.readable)

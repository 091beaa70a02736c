use Rattle.core_match.proofs.FieldMatches.{step_refused}
use Rattle.core_match.proofs.matching.fields_matched.Goals as goal

pub returns-in_err-next-clause-refused : goal.returns-in_err-next-clause-refused
returns-in_err-next-clause-refused c =
    step_refused c.args.local.now c.args.target.now c.args.type_id c.loop-step.steps c.args.path.now c.loop-step.progress c.loop-step.step-index _ _ c.in_err-next.field-0.0 c.loop-step-test.true c.loop-step.invariant c.in_err-next.ensures.refused c.from_residual.ensures.1

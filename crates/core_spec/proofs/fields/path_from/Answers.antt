use Rattle.core_spec.proofs.FieldPaths.{step_refused}
use Rattle.core_spec.proofs.fields.path_from.Goals as goal

pub returns-in_err-next-clause-refused : goal.returns-in_err-next-clause-refused
returns-in_err-next-clause-refused c =
    step_refused c.args.table.now c.args.type_id c.loop-number.steps c.loop-number.reached c.args.numbers.now c.loop-number.number-index _ _ c.in_err-next.field-0.0 c.loop-number-test.true c.loop-number.invariant c.in_err-next.ensures.refused c.from_residual-in_err-next.ensures.1

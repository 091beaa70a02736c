use Rattle.std.proofs.Common.{ap}
use Rattle.std.proofs.lemmas.Result.{err_from_is_err_and}
use Rattle.load_plan.specs.Inputs.{State}
use Rattle.load_plan.proofs.Texts.{externs_refused, resolved_if}
use Rattle.load_plan.proofs.making.resolve.Goals as goal

pub returns-in_err-resolve_externs-clause-refused : goal.returns-in_err-resolve_externs-clause-refused
returns-in_err-resolve_externs-clause-refused g c =
    let p = err_from_is_err_and c.from_residual.result c.from_residual.ensures.1 in
    rw (p.1, p.2)
    (externs_refused _ _ _ c.args.object.now c.in_err-resolve_externs.field-0.0
    (rw c.first.ensures.value at c.in_err-resolve_externs.ensures.refused))

pub returns-clause-made : goal.returns-clause-made
returns-clause-made g c =
    resolved_if _ _ _ c.args.object.now c.resolve_externs.new.self
    (rw c.first.ensures.value at c.in_ok-resolve_externs.ensures.externs)
    (λ none. ap (λ (o : State). o.externs) (c.in_ok-resolve_externs.ensures.no_table none).1)
    c.in_ok-resolve_externs.ensures.others

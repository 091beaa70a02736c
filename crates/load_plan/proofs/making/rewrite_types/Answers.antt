use Rattle.std.proofs.lemmas.Result.{err_from_is_err_and}
use Rattle.load_plan.proofs.Refused.{types_refused}
use Rattle.load_plan.proofs.making.rewrite_types.Goals as goal

pub returns-in_err-fixup_and_sanitize_btf-clause-refused : goal.returns-in_err-fixup_and_sanitize_btf-clause-refused
returns-in_err-fixup_and_sanitize_btf-clause-refused g c =
    let p = err_from_is_err_and c.from_residual.result c.from_residual.ensures.1 in
    rw (p.1, p.2)
    (types_refused g.F.FnMut c.args.predicate c.args.object.now c.in_err-fixup_and_sanitize_btf.field-0.0 c.in_err-fixup_and_sanitize_btf.ensures.refused)

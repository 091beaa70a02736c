use Rattle.std.proofs.lemmas.Result.{err_from_is_err_and}
use Rattle.object_contents.specs.Faults.{HasFault}
use Rattle.load_plan.proofs.Refused.{parse_refused}
use Rattle.load_plan.proofs.planning.parse.Goals as goal

pub returns-in_err-parse-clause-refused : goal.returns-in_err-parse-clause-refused
returns-in_err-parse-clause-refused c =
    let p = err_from_is_err_and c.from_residual.result c.from_residual.ensures.1 in
    rw (p.1, p.2) (parse_refused (HasFault c.args.file.now) c.in_err-parse.field-0.0 c.in_err-parse.ensures.refused)

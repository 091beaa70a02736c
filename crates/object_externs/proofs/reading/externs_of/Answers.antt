use Rattle.std.proofs.lemmas.Result.{err_from_is_err_and}
use Rattle.object_externs.specs.Faults.{ExternsFault}
use Rattle.object_externs.proofs.TypesErrors.{says-from}
use Rattle.object_externs.proofs.reading.externs_of.Goals as goal

pub returns-in_err-read_externs-clause-refused : goal.returns-in_err-read_externs-clause-refused
returns-in_err-read_externs-clause-refused c =
    let p = err_from_is_err_and c.from_residual.result c.from_residual.ensures.1 in
    rw (p.1, p.2) (says-from (ExternsFault c.args.symbols.now c.args.table.now) c.in_err-read_externs.field-0.0 c.in_err-read_externs.ensures.refused)

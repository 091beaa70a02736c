use Rattle.std.proofs.Common.{inl, inr, subst, List}
use Rattle.std.proofs.lemmas.Result.{err_from_is_err_and}
use Rattle.std.specs.Option.{IsSomeAnd}
use Rattle.elf64.specs.Symbols.{Symbol}
use Rattle.object_externs.specs.Faults.{ExternsFault}
use Rattle.object_externs.specs.Types.{SaysOfTypes}
use Rattle.object_contents.proofs.Faultless.{externs-stand}
use Rattle.object_contents.proofs.types.read_types.Goals as goal

pub returns-in_err-externs-clause-refused : goal.returns-in_err-externs-clause-refused
returns-in_err-externs-clause-refused c =
    let p = err_from_is_err_and c.from_residual-in_err-externs.result c.from_residual-in_err-externs.ensures.1 in
    let e = c.in_err-externs.field-0.0 in
    let table = c.in_ok-table.table in
    rw (p.1, p.2)
    (λ other. inr (inl (externs-stand c.args.file.now table c.in_ok-table.ensures.holds e
    (subst (λ (symbols : List Symbol). IsSomeAnd table (λ t. SaysOfTypes (ExternsFault symbols t) e)) c.symbols.ensures.value (c.in_err-externs.ensures.refused other)))))

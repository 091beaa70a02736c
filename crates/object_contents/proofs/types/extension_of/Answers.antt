use Rattle.std.proofs.Common.{Some, ap, sym, ◌∙◌, inl, inr}
use Rattle.std.proofs.lemmas.Result.{err_from_is_err_and}
use Rattle.std.specs.Option.{option_copied}
use Rattle.object_contents.proofs.Faultless.{records-fault-at, records-stand, says-from}
use Rattle.object_contents.specs.Types.{RecordsFault}
use Rattle.object_contents.proofs.types.extension_of.Goals as goal

pub returns-in_err-extension-in-Some-clause-refused : goal.returns-in_err-extension-in-Some-clause-refused
returns-in_err-extension-in-Some-clause-refused c =
    let p = err_from_is_err_and c.from_residual-in_err-extension-in-Some.result c.from_residual-in_err-extension-in-Some.ensures.1 in
    let e = c.in_err-extension-in-Some.field-0.0 in
    rw (p.1, p.2)
    (λ other. inr (inl (records-stand c.args.file.now (Some c.args.table.now) c.requires _
    (says-from (RecordsFault c.args.file.now c.args.table.now) e
    (λ fault. records-fault-at c.args.file.now c.args.table.now c.in-Some.bytes.now c.endianness.result (sym c.in_ok-bytes.ensures.value ∙ ap option_copied c.in-Some.is) c.endianness.ensures e (c.in_err-extension-in-Some.ensures.refused fault))
    other))))

use Rattle.std.proofs.Common.{◌≢◌, ◌≡◌}
use Rattle.btf_records.specs.declared.error.BtfError.TheVariants.{InvalidTypeInfo, OutOfMemory}
use Rattle.object_externs.specs.Faults.{IsOverfull}
use Rattle.object_externs.specs.Placeholder.{int_id, with_int, with_placeholder}
use Rattle.object_externs.proofs.Faultless.{passed_on}
use Rattle.object_externs.proofs.Growth.{still_overfull, texts_then, types_then}
use Rattle.object_externs.proofs.placeholder.add_placeholder.Goals as goal

pub returns-in_err-int-clause-refused : goal.returns-in_err-int-clause-refused
returns-in_err-int-clause-refused c =
    passed_on _ c.in_err-int.field-0.0 (λ e. e ≢ OutOfMemory → (e ≡ InvalidTypeInfo) × IsOverfull (with_placeholder c.args.table.now)) c.from_residual-in_err-int.ensures.1
    (λ other. let h = rw c.in_ok-grown.ensures at (c.in_err-int.ensures.refused other) in (h.0, still_overfull (with_int c.args.table.now) (int_id c.args.table.now) h.1))

pub returns-clause-texts : goal.returns-clause-texts
returns-clause-texts c = texts_then _ _ _ (rw c.in_ok-grown.ensures at c.in_ok-int.ensures.texts) c.in_ok-id.ensures.texts

pub returns-clause-types : goal.returns-clause-types
returns-clause-types c = types_then _ _ _ (rw c.in_ok-grown.ensures at c.in_ok-int.ensures.types) c.in_ok-id.ensures.types

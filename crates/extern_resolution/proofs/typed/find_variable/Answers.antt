use Rattle.std.proofs.Common.{refl}
use Rattle.extern_resolution.proofs.Found.{record_refused}
use Rattle.extern_resolution.proofs.typed.find_variable.Goals as goal

pub returns-in_err-id-clause-refused : goal.returns-in_err-id-clause-refused
returns-in_err-id-clause-refused c = record_refused _ c.args.table.now c.args.kernel.now c.args.type_id _ c.args.name.now c.args.desc.now c.args.name.now c.in_err-id.field-0.0 refl refl c.from_residual.ensures.1 c.in_err-id.ensures.refused

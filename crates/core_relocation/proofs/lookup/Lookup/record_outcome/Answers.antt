use Rattle.std.proofs.Common.{sym, ap}
use Rattle.core_spec.specs.declared.error.AccessError.TheVariants.{BtfError as TypeError}
use Rattle.btf_records.specs.declared.error.BtfError.TheVariants.{InvalidRelocationKind}
use Rattle.core_resolve.specs.declared.error.TypeRelocationError.TheVariants.{Local}
use Rattle.core_relocation.specs.Relocations.{outcome_of_kind}
use Rattle.core_relocation.proofs.lookup.Lookup.record_outcome.Goals as goal

pub returns-in-Err-clause-refused : goal.returns-in-Err-clause-refused
returns-in-Err-clause-refused c = λ other.
    (Local (TypeError (InvalidRelocationKind c.args.relocation.kind)), ap (outcome_of_kind c.args.self.now c.args.relocation) (sym c.in-Err.ensures.0), c.in-Err.ensures.1)

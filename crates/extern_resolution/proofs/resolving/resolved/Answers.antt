use Rattle.std.specs.Prelude.{option_copied}
use Rattle.object_externs.specs.Names.{by_bytes}
use Rattle.extern_resolution.proofs.Composed.{err_address, err_typed, ok_resolved}
use Rattle.extern_resolution.proofs.resolving.resolved.Goals as goal

pub returns-in_err-typed-clause-refused : goal.returns-in_err-typed-clause-refused
returns-in_err-typed-clause-refused g c = err_typed c.from_residual.result c.args.table.now (option_copied c.args.kernel) _ _ c.args.externs.now c.in_err-typed.field-0.0 c.from_residual.ensures.1 c.in_err-typed.ensures.refused

pub returns-clause-resolved : goal.returns-clause-resolved
returns-clause-resolved g c = ok_resolved (λ new. by_bytes new.entries) c.addressed_externs.result c.args.table.now (option_copied c.args.kernel) _ _ c.in_ok-addresses.addresses c.args.externs.now c.in_ok-typed.typed c.in_ok-typed.ensures.becomes c.in_ok-typed.ensures.accepted c.in_ok-addresses.ensures.found c.addressed_externs.ensures.becomes c.addressed_externs.ensures.accepted

pub returns-clause-refused : goal.returns-clause-refused
returns-clause-refused g c = err_address c.addressed_externs.result c.args.table.now (option_copied c.args.kernel) _ _ c.in_ok-addresses.addresses c.args.externs.now c.in_ok-typed.typed c.in_ok-typed.ensures.becomes c.in_ok-addresses.ensures.found c.addressed_externs.ensures.refused

use Rattle.std.proofs.Common.{◌≡◌}
use Rattle.extern_resolution.specs.Outcomes.{is_any_sought}
use Rattle.object_externs.specs.Names.{by_bytes}
use Rattle.extern_resolution.proofs.addressed.is_any_sought.Given as goal

abbrev pub invariant-loop-name : goal.invariant-loop-name
invariant-loop-name l = is_any_sought (by_bytes l._name-iterator) ≡ is_any_sought l.externs.by_name

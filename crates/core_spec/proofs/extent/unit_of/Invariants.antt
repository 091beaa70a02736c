use Rattle.std.proofs.Common.{◌≡◌, ◌-◌, ◌<◌}
use Rattle.core_spec.proofs.extent.unit_of.Given as goal
use Rattle.core_spec.specs.Extents.{unit_from}

abbrev pub invariant-loop : goal.invariant-loop
invariant-loop l = (unit_from (4 - l.counter) l.at l.bits l.unit ≡ unit_from 4 l.at l.bits l.size) × (0 < l.unit)

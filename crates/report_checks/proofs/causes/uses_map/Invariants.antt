use Rattle.std.proofs.Common.{◌≡◌}
use Rattle.std.specs.List.{list_any}
use Rattle.report_checks.specs.Causes.{loads_map}
use Rattle.report_checks.proofs.causes.uses_map.Given as goal

abbrev pub invariant-loop-slot : goal.invariant-loop-slot
invariant-loop-slot l = list_any (loads_map l.number) l.slot-iterator ≡ list_any (loads_map l.number) l.slots

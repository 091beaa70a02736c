use Rattle.std.proofs.Common.{◌≡◌, ◌++◌, drop, map}
use Rattle.plan_values.specs.Programs.{numbered}
use Rattle.report_checks.specs.Codes.{frozen_maps}
use Rattle.report_checks.proofs.codes.frozen_maps.Given as goal

abbrev pub invariant-loop-map : goal.invariant-loop-map
invariant-loop-map l = map numbered l.frozen.items ++ frozen_maps (drop l.map-index l.maps) ≡ frozen_maps l.maps

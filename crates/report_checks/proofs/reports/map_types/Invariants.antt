use Rattle.std.proofs.Common.{◌≡◌, ◌++◌, drop, map}
use Rattle.report_needs.specs.Enums.{map_presence}
use Rattle.report_checks.proofs.reports.map_types.Given as goal

abbrev pub invariant-loop-map : goal.invariant-loop-map
invariant-loop-map l = l.types.items ++ map (λ m. map_presence l.kernel m.words.map_type) (drop l.map-index l.maps) ≡ map (λ m. map_presence l.kernel m.words.map_type) l.maps

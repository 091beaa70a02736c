use Rattle.std.proofs.Common.{◌≡◌, ◌++◌}
use Rattle.report_checks.specs.Causes.{map_causes_below}
use Rattle.report_checks.proofs.causes.add_maps.Given as goal

abbrev pub invariant-loop-index : goal.invariant-loop-index
invariant-loop-index l =
    l.causes.items ≡ l.fn.causes.items ++ map_causes_below l.maps l.presences l.slots l.wanted l.index

use Rattle.std.proofs.Common.{take}
use Rattle.std.specs.List.{All}
use Rattle.plan_text.specs.Content.{FitsMap}
use Rattle.plan_text.proofs.limits.maps_fit.Given as goal

abbrev pub invariant-loop-map : goal.invariant-loop-map
invariant-loop-map l = All FitsMap (take l.map-index l.maps)

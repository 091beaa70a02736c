use Rattle.std.proofs.Common.{◌≡◌, ◌++◌, map}
use Rattle.std.specs.List.{All}
use Rattle.object_maps.specs.Maps.{shown}
use Rattle.plan_text.specs.Content.{IsSoundMap}
use Rattle.load_plan.specs.PlanMaps.{plan_map}
use Rattle.load_plan.proofs.plan_map.plan_maps.Given as goal

abbrev pub invariant-loop-name : goal.invariant-loop-name
invariant-loop-name l =
    (l.list.items ++ map (plan_map l.settings) (shown l.name-iterator) ≡ map (plan_map l.settings) l.maps) × All IsSoundMap l.list.items

use Rattle.std.proofs.Common.{◌≡◌, ◌++◌, map}
use Rattle.object_maps.specs.Maps.{shown}
use Rattle.load_plan.specs.Numbers.{numbered}
use Rattle.load_plan.proofs.numbered.numbered_maps.Given as goal

abbrev pub invariant-loop-name : goal.invariant-loop-name
invariant-loop-name l = l.list.items ++ map (numbered l.settings) (shown l.name-iterator) ≡ map (numbered l.settings) l.maps

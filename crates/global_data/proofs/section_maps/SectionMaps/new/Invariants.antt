use Rattle.std.proofs.Common.{◌≡◌, ℕ}
use Rattle.std.specs.BTreeMap.{get}
use Rattle.std.specs.Option.{option_or}
use Rattle.std.specs.Ordering.{nat_cmp}
use Rattle.object_maps.specs.Maps.{shown}
use Rattle.global_data.specs.SectionMaps.{extent_in}
use Rattle.global_data.proofs.section_maps.SectionMaps.new.Given as goal

-- The maps by section so far, with the remaining maps, have the map of each section.
abbrev pub invariant-loop-name : goal.invariant-loop-name
invariant-loop-name l = (index : ℕ) → option_or (get nat_cmp l.by_section index) (extent_in (shown l.name-iterator) index) ≡ extent_in l.maps index

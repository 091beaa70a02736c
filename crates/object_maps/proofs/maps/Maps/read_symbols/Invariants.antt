use Rattle.std.proofs.Common.{◌≡◌, take, [], flat_map}
use Rattle.object_maps.specs.Found.{entered}
use Rattle.object_maps.specs.LegacyMaps.{legacy_map, legacy_map_faults}
use Rattle.object_maps.proofs.maps.Maps.read_symbols.Given as goal

abbrev pub invariant-loop-symbol : goal.invariant-loop-symbol
invariant-loop-symbol l = record {
  value : l.self ≡ entered l.fn.self (flat_map (legacy_map l.section) (take l.symbol-index l.symbols));
  accepted : flat_map (legacy_map_faults l.section) (take l.symbol-index l.symbols) ≡ [];
}

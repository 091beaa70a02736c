use Rattle.std.proofs.Common.{◌≡◌, take, false}
use Rattle.std.specs.List.{list_any}
use Rattle.object_maps.specs.LegacyMaps.{is_map_symbol}
use Rattle.object_maps.proofs.legacy_maps.any_map.Given as goal

abbrev pub invariant-loop-symbol : goal.invariant-loop-symbol
invariant-loop-symbol l = list_any is_map_symbol (take l.symbol-index l.symbols) ≡ false

use Rattle.std.proofs.Common.{take}
use Rattle.object_maps.specs.LastSymbols.{AreLast}
use Rattle.object_maps.proofs.last_symbols.LastSymbols.new.Given as goal

abbrev pub invariant-loop-symbol : goal.invariant-loop-symbol
invariant-loop-symbol l = AreLast (take l.symbol-index l.symbols) l.by_name

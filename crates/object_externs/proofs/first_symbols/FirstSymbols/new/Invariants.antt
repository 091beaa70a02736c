use Rattle.std.proofs.Common.{take}
use Rattle.object_externs.specs.FirstSymbols.{AreFirst}
use Rattle.object_externs.proofs.first_symbols.FirstSymbols.new.Given as goal

abbrev pub invariant-loop-symbol : goal.invariant-loop-symbol
invariant-loop-symbol l = AreFirst (take l.symbol-index l.symbols) l.by_name

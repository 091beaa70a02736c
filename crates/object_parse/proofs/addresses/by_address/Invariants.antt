use Rattle.std.proofs.Common.{take}
use Rattle.object_parse.specs.Places.{AreDefinitionsOf}
use Rattle.object_parse.proofs.addresses.by_address.Given as goal

abbrev pub invariant-loop-symbol : goal.invariant-loop-symbol
invariant-loop-symbol l = AreDefinitionsOf l.definitions (take l.symbol-index l.symbols)

use Rattle.object_maps.proofs.LastNamed.{one_more}
use Rattle.object_maps.proofs.last_symbols.LastSymbols.new.Goals as goal

pub loop-symbol-preserved : goal.loop-symbol-preserved
loop-symbol-preserved c = one_more c.args.symbols.now c.loop-symbol.symbol-index c.loop-symbol.by_name c.enter.new.by_name _ c.loop-symbol-test.true c.symbol-item.is c.loop-symbol.invariant c.in_ok-enter.ensures

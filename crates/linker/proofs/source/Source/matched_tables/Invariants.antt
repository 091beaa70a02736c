use Rattle.std.proofs.Common.{◌≡◌, take, reverse}
use Rattle.linker.specs.Records.{tables_of}
use Rattle.linker.proofs.source.Source.matched_tables.Given as goal

abbrev pub invariant-loop-key : goal.invariant-loop-key
invariant-loop-key l = l.tables ≡ tables_of l.self l.fn.own (reverse (take l.key-index l.order.keys.items))

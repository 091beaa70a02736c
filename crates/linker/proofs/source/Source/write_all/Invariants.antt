use Rattle.std.proofs.Common.{◌≡◌, take, reverse}
use Rattle.linker.specs.Layout.{copies_of}
use Rattle.linker.specs.Unlinked.{table_of}
use Rattle.linker.specs.Records.{functions_of, lines_of}
use Rattle.linker.specs.Walks.{AllSound}
use Rattle.linker.proofs.source.Source.write_all.Given as goal

abbrev pub invariant-loop-key : goal.invariant-loop-key
invariant-loop-key l = record {
  slots : l.slots.items ≡ copies_of (table_of l.self) l.fn.own (reverse l.order.keys.items) (reverse (take l.key-index l.order.keys.items));
  functions : l.records.functions.items ≡ functions_of l.self l.fn.own (reverse (take l.key-index l.order.keys.items));
  lines : l.records.lines.items ≡ lines_of l.self l.fn.own (reverse (take l.key-index l.order.keys.items));
  sound : AllSound l.self l.fn.own (reverse (take l.key-index l.order.keys.items));
}

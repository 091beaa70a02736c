use Rattle.std.proofs.Common.{length}
use Rattle.kernel_symbols.specs.Reading.{TakesAllBut}
use Rattle.kernel_symbols.proofs.reading.ReadingTakeBytesSymbolsError.take_bytes.Given as goal

abbrev pub invariant-loop-at : goal.invariant-loop-at
invariant-loop-at l = TakesAllBut l.fn.self l.bytes l.rest l.self

abbrev pub decreases-loop-at : goal.decreases-loop-at
decreases-loop-at l = length l.rest

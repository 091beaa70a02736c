use Rattle.std.proofs.Common.{◌≡◌, false}
use Rattle.std.specs.Prelude.{MatchBool}
use Rattle.watched.specs.Watched.{watched_inner, has_failed, calls_left}
use Rattle.kernel_symbols.specs.Reading.{ReadsSome, ReadsWhole}
use Rattle.kernel_symbols.proofs.reading.read_all.Given as goal

abbrev pub invariant-loop-is_more : goal.invariant-loop-is_more
invariant-loop-is_more g l = MatchBool l.is_more
    (ReadsSome (g.R.Read.remaining (watched_inner l.fn.symbols)) (g.R.Read.remaining (watched_inner l.symbols)) l.fn.reading l.reading)
    (ReadsWhole (g.R.Read.remaining (watched_inner l.fn.symbols)) l.fn.reading l.reading × (has_failed l.symbols ≡ false))

abbrev pub decreases-loop-is_more : goal.decreases-loop-is_more
decreases-loop-is_more g l = calls_left l.symbols

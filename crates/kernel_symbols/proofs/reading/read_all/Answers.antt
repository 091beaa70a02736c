use Rattle.watched.specs.Watched.{watched_inner, has_failed}
use Rattle.kernel_symbols.specs.Reading.{ReadsSome, RefusesReader}
use Rattle.kernel_symbols.proofs.ReaderLemmas.{refused_later, turned, reads_none}
use Rattle.kernel_symbols.proofs.WantedLemmas.{passed_on}
use Rattle.kernel_symbols.proofs.reading.read_all.Goals as goal

pub loop-is_more-init : goal.loop-is_more-init
loop-is_more-init g c = reads_none _ _

pub loop-is_more-preserved : goal.loop-is_more-preserved
loop-is_more-preserved g c =
    let before : ReadsSome (g.R.Read.remaining (watched_inner c.args.symbols.now)) (g.R.Read.remaining (watched_inner c.loop-is_more.symbols)) c.args.reading.now c.loop-is_more.reading = rw c.loop-is_more-test.true at c.loop-is_more.invariant in
    turned c.in_ok-is_more.is_more _ _ _ _ _ _ _ before c.in_ok-is_more.ensures.taken c.in_ok-is_more.ensures.end c.in_ok-is_more.ensures.sound

pub returns-in_err-is_more-clause-refused : goal.returns-in_err-is_more-clause-refused
returns-in_err-is_more-clause-refused g c =
    let before : ReadsSome (g.R.Read.remaining (watched_inner c.args.symbols.now)) (g.R.Read.remaining (watched_inner c.loop-is_more.symbols)) c.args.reading.now c.loop-is_more.reading = rw c.loop-is_more-test.true at c.loop-is_more.invariant in
    passed_on _ c.in_err-is_more.field-0.0 (RefusesReader (g.R.Read.remaining (watched_inner c.args.symbols.now)) (has_failed c.read_on.new.symbols) c.args.reading.now) c.from_residual.ensures.1
    (refused_later _ _ _ _ _ _ before c.in_err-is_more.ensures.refused)

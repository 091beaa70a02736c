use Rattle.std.proofs.Common.{◌≢◌}
use Rattle.watched.specs.Watched.{watched_inner, has_failed}
use Rattle.kernel_symbols.specs.Reading.{ReaderFault}
use Rattle.kernel_symbols.specs.declared.error.SymbolsError.TheVariants.{OutOfMemory}
use Rattle.kernel_symbols.proofs.ReaderLemmas.{err_last, fault_read, ok_found}
use Rattle.kernel_symbols.proofs.WantedLemmas.{passed_on}
use Rattle.kernel_symbols.proofs.reading.read_addresses.Goals as goal

pub returns-clause-found : goal.returns-clause-found
returns-clause-found g c = ok_found c.finish.result c.args.names.now _ c.in_ok-reading.reading _ c.in_ok-reading.ensures.wanted c.in_ok-reading.ensures.begun c.in_ok-read_all.ensures.taken c.finish.ensures.found

pub returns-clause-refused : goal.returns-clause-refused
returns-clause-refused g c = err_last c.finish.result c.args.names.now _ _ c.in_ok-reading.reading _ c.in_ok-reading.ensures.wanted c.in_ok-reading.ensures.begun c.in_ok-read_all.ensures.taken c.finish.ensures.refused

pub returns-in_err-read_all-clause-refused : goal.returns-in_err-read_all-clause-refused
returns-in_err-read_all-clause-refused g c =
    passed_on _ c.in_err-read_all.field-0.0 (λ e. e ≢ OutOfMemory → ReaderFault c.args.names.now (g.R.Read.remaining (watched_inner c.args.symbols.now)) (has_failed c.read_all.new.symbols) e) c.from_residual-in_err-read_all.ensures.1
    (λ other. fault_read c.args.names.now _ _ c.in_ok-reading.reading _ other c.in_ok-reading.ensures.wanted c.in_ok-reading.ensures.begun c.in_err-read_all.ensures.refused)

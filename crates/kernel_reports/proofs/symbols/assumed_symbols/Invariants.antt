use Rattle.object_externs.specs.Names.{by_bytes}
use Rattle.std.specs.String.{string_bytes}
use Rattle.kernel_reports.proofs.Writing.{AreWritten}
use Rattle.kernel_reports.proofs.symbols.assumed_symbols.Given as goal

abbrev pub invariant-loop-name : goal.invariant-loop-name
invariant-loop-name l = AreWritten l.externs.by_name (by_bytes l.name-iterator) (string_bytes l.text)

use Rattle.object_externs.specs.Names.{by_bytes}
use Rattle.kernel_reports.proofs.Growing.{AreEntered}
use Rattle.kernel_reports.proofs.presences.all_weak.Given as goal

abbrev pub invariant-loop-name : goal.invariant-loop-name
invariant-loop-name l = AreEntered l.externs.by_name (by_bytes l.name-iterator) (by_bytes l.by_name.entries)

use Rattle.std.proofs.Common.{◌≡◌, ◌++◌, map}
use Rattle.object_externs.specs.Names.{by_bytes}
use Rattle.kernel_reports.specs.Presences.{presence_of}
use Rattle.kernel_reports.proofs.presences.all_presences.Given as goal

abbrev pub invariant-loop-desc : goal.invariant-loop-desc
invariant-loop-desc l = l.presences.items ++ map (λ e. presence_of l.has_symbols e.1) (by_bytes l.desc-iterator) ≡ map (λ e. presence_of l.has_symbols e.1) l.externs.by_name

use Rattle.std.proofs.Common.{◌≡◌, ◌++◌, map}
use Rattle.object_externs.specs.Names.{by_bytes}
use Rattle.report_needs.specs.declared.enums.Presence.TheVariants.{Unknown}
use Rattle.kernel_reports.proofs.presences.all_unknown.Given as goal

abbrev pub invariant-loop-extern : goal.invariant-loop-extern
invariant-loop-extern l = l.presences.items ++ map (λ e. Unknown) (by_bytes l._extern-iterator) ≡ map (λ e. Unknown) l.externs.by_name

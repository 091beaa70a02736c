use Rattle.std.proofs.Common.{◌≡◌, ◌++◌, drop, map}
use Rattle.report_checks.specs.declared.causes.ProgramCause.TheVariants.{Argument}
use Rattle.report_checks.proofs.causes.add_arguments.Given as goal

abbrev pub invariant-loop-slot : goal.invariant-loop-slot
invariant-loop-slot l = l.causes.items ++ map Argument (drop l.slot-index l.missing) ≡ l.fn.causes.items ++ map Argument l.missing

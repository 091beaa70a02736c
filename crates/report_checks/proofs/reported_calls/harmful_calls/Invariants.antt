use Rattle.report_checks.specs.Reports.{AreHarmfulCalls}
use Rattle.report_checks.proofs.reported_calls.harmful_calls.Given as goal

abbrev pub invariant-loop-slot : goal.invariant-loop-slot
invariant-loop-slot l = AreHarmfulCalls l.kernel l.code l.program l.slot l.calls.items

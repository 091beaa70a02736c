use Rattle.std.proofs.Common.{◌≡◌, ◌++◌, drop}
use Rattle.report_checks.specs.Causes.{call_causes}
use Rattle.report_checks.proofs.causes.add_calls.Given as goal

abbrev pub invariant-loop-call : goal.invariant-loop-call
invariant-loop-call l = l.causes.items ++ call_causes (drop l.call-index l.calls) ≡ l.fn.causes.items ++ call_causes l.calls

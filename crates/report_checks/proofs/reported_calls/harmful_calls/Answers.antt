use Rattle.std.proofs.Common.{sym}
use Rattle.report_checks.proofs.Harmful.{none_here, one_more}
use Rattle.report_checks.proofs.reported_calls.harmful_calls.Goals as goal
use Rattle.report_checks.proofs.reported_calls.harmful_calls.Goals.{in-Some+in_ok-push, in_default}

pub loop-slot-preserved : goal.loop-slot-preserved
loop-slot-preserved c = elim c.match-harmful_call.branch [
  | in-Some+in_ok-push w ↦ rw (w.calls-is, w.in_ok-push.ensures.items) (one_more c.args.kernel.now c.args.code.now c.args.program.now c.loop-slot.slot c.loop-slot.calls.items w.in-Some.call c.loop-slot.invariant w.in-Some.ensures.there.0 w.in-Some.ensures.there.1 (sym w.in-Some.ensures.missed))
  | in_default w ↦ rw w.calls-is (none_here c.args.kernel.now c.args.code.now c.args.program.now c.loop-slot.slot c.loop-slot.calls.items c.loop-slot.invariant (sym w.in_default.ensures.missed))
]

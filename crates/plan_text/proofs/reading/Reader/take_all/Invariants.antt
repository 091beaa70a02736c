use Rattle.std.proofs.Common.{◌+◌, ◌≤◌, length}
use Rattle.plan_text.specs.Machine.{state_view}
use Rattle.plan_text.proofs.ReadingLaws.{IsReading}
use Rattle.plan_text.proofs.reading.Reader.take_all.Given as goal

abbrev pub invariant-loop-line : goal.invariant-loop-line
invariant-loop-line l = (l.lines + length l.rest ≤ length l.bytes) × IsReading l.bytes l.rest l.lines (state_view l.self)

abbrev pub decreases-loop-line : goal.decreases-loop-line
decreases-loop-line l = length l.rest

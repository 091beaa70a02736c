use Rattle.std.proofs.Common.{◌-◌, ◌≤◌, length}
use Rattle.object_text.proofs.code.write_line_info.Given as goal

abbrev pub invariant-loop-record : goal.invariant-loop-record
invariant-loop-record g l = l.index ≤ length l.function.line_info

abbrev pub decreases-loop-record : goal.decreases-loop-record
decreases-loop-record g l = length l.function.line_info - l.index

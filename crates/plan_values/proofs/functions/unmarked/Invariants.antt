use Rattle.std.proofs.Common.{◌≡◌, ◌≤◌, ◌-◌, false, replicate, vec_len}
use Rattle.plan_values.proofs.functions.unmarked.Given as goal

abbrev pub invariant-loop-marks : goal.invariant-loop-marks
invariant-loop-marks l = (l.marks.items ≡ replicate (vec_len l.marks) false) × (vec_len l.marks ≤ l.len)

abbrev pub decreases-loop-marks : goal.decreases-loop-marks
decreases-loop-marks l = l.len - vec_len l.marks

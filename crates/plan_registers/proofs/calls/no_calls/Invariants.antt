use Rattle.std.proofs.Common.{◌≤◌, ◌-◌, vec_len}
use Rattle.plan_registers.proofs.calls.no_calls.Given as goal

abbrev pub invariant-loop-alloc : goal.invariant-loop-alloc
invariant-loop-alloc l = vec_len l.calls ≤ l.len

abbrev pub decreases-loop-alloc : goal.decreases-loop-alloc
decreases-loop-alloc l = l.len - vec_len l.calls

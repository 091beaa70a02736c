use Rattle.std.proofs.Common.{◌≡◌, drop}
use Rattle.plan_values.specs.Knowledge.{is_same}
use Rattle.plan_values.proofs.known.is_same.Given as goal

abbrev pub invariant-loop-i : goal.invariant-loop-i
invariant-loop-i l = is_same (drop l.i l.a) (drop l.i l.b) ≡ is_same l.a l.b

use Rattle.std.proofs.Common.{◌≡◌, ◌++◌, drop}
use Rattle.plan_registers.specs.Reach.{offsets_in}
use Rattle.plan_registers.proofs.reached.offsets_in.Given as goal

abbrev pub invariant-loop-position : goal.invariant-loop-position
invariant-loop-position l = l.offsets.items ++ offsets_in (drop l.position l.slots) (drop l.position l.facts) ≡ offsets_in l.slots l.facts

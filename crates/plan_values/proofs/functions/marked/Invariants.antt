use Rattle.std.proofs.Common.{◌≡◌, false, drop, length, replicate}
use Rattle.plan_values.specs.Functions.{marked}
use Rattle.plan_values.proofs.functions.marked.Given as goal

abbrev pub invariant-loop-position : goal.invariant-loop-position
invariant-loop-position l =
    marked (drop l.position l.slots) l.position l.marks.items ≡ marked l.slots 0 (replicate (length l.slots) false)

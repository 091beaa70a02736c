use Rattle.std.proofs.Common.{◌≡◌, ◌++◌, drop}
use Rattle.plan_values.specs.Functions.{begun_by}
use Rattle.plan_values.proofs.functions.begun_by.Given as goal

abbrev pub invariant-loop-position : goal.invariant-loop-position
invariant-loop-position l =
    l.functions.items ++ begun_by (drop l.position l.marks) l.position l.function ≡ begun_by l.marks 0 0

use Rattle.std.proofs.Common.{◌≡◌, ◌++◌, drop, filter}
use Rattle.core_resolve.proofs.DifferingMatches.{differs}
use Rattle.core_resolve.proofs.resolved.differing.Given as goal

abbrev pub invariant-loop-other : goal.invariant-loop-other
invariant-loop-other l = l.found.items ++ filter (differs l.first) (drop l.other-index l.others) ≡ filter (differs l.first) l.others

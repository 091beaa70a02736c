use Rattle.std.proofs.Common.{◌≤◌, ◌-◌, length}
use Rattle.program_io.specs.Embedded.{NoneBegins}
use Rattle.program_io.proofs.embedded.next_start.Given as goal

abbrev pub invariant-loop-distance : goal.invariant-loop-distance
invariant-loop-distance l = NoneBegins l.bytes l.from l.at × (l.from ≤ l.at) × (l.at ≤ length l.bytes)

abbrev pub decreases-loop-distance : goal.decreases-loop-distance
decreases-loop-distance l = length l.bytes - l.at

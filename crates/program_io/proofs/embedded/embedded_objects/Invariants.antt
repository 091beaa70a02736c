use Rattle.std.proofs.Common.{◌≤◌, ◌-◌, length}
use Rattle.program_io.specs.Embedded.{Holds}
use Rattle.program_io.proofs.embedded.embedded_objects.Given as goal

abbrev pub invariant-loop-start : goal.invariant-loop-start
invariant-loop-start l = Holds l.bytes 0 l.objects.items l.from × (l.from ≤ length l.bytes)

abbrev pub decreases-loop-start : goal.decreases-loop-start
decreases-loop-start l = length l.bytes - l.from

use Rattle.std.proofs.Common.{◌≡◌, drop, map}
use Rattle.plan_values.specs.Programs.{bytes_in, numbered}
use Rattle.plan_values.proofs.program.bytes_in.Given as goal

abbrev pub invariant-loop-map : goal.invariant-loop-map
invariant-loop-map l = bytes_in (map numbered (drop l.map-index l.maps)) l.number ≡ bytes_in (map numbered l.maps) l.number

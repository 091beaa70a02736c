use Rattle.std.proofs.Common.{◌≡◌, ◌++◌, ◌-◌, drop, length, map}
use Rattle.linker.specs.Records.{moved_function}
use Rattle.linker.proofs.records.push_functions.Given as goal

abbrev pub invariant-loop-record : goal.invariant-loop-record
invariant-loop-record l = l.out.items ++ map (moved_function l.start) (drop l.index l.records) ≡ l.fn.out.items ++ map (moved_function l.start) l.records

abbrev pub decreases-loop-record : goal.decreases-loop-record
decreases-loop-record l = length l.records - l.index

use Rattle.std.proofs.Common.{◌≡◌, ◌++◌, ◌-◌, drop, length}
use Rattle.linker.proofs.records.push_lines.Given as goal

abbrev pub invariant-loop-record : goal.invariant-loop-record
invariant-loop-record l = l.out.items ++ drop l.index l.records ≡ l.fn.out.items ++ l.records

abbrev pub decreases-loop-record : goal.decreases-loop-record
decreases-loop-record l = length l.records - l.index

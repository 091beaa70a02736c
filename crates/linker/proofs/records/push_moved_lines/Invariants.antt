use Rattle.std.proofs.Common.{◌≡◌, ◌++◌, ◌-◌, drop, length, map}
use Rattle.linker.specs.Records.{moved_line}
use Rattle.linker.proofs.records.push_moved_lines.Given as goal

abbrev pub invariant-loop-record : goal.invariant-loop-record
invariant-loop-record l = l.out.items ++ map (moved_line l.start l.first.insn_off) (drop l.index l.records) ≡ l.fn.out.items ++ map (moved_line l.start l.first.insn_off) l.records

abbrev pub decreases-loop-record : goal.decreases-loop-record
decreases-loop-record l = length l.records - l.index

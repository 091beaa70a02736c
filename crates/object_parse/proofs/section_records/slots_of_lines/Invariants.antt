use Rattle.std.proofs.Common.{◌≡◌, ◌++◌, ◌-◌, drop, length, map}
use Rattle.object_parse.specs.SlotIndexes.{numbered}
use Rattle.object_parse.proofs.section_records.slots_of_lines.Given as goal

abbrev pub invariant-loop-record : goal.invariant-loop-record
invariant-loop-record l = l.places.items ++ numbered l.index (map (λ r. r.insn_off) (drop l.index l.records)) ≡ numbered 0 (map (λ r. r.insn_off) l.records)

abbrev pub decreases-loop-record : goal.decreases-loop-record
decreases-loop-record l = length l.records - l.index

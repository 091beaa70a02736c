use Rattle.std.proofs.Common.{◌≡◌, ◌-◌, length, take}
use Rattle.btf_records.specs.Fields.{entries_of}
use Rattle.object_externs.proofs.section.section_entries.Given as goal

abbrev pub invariant-loop-entry : goal.invariant-loop-entry
invariant-loop-entry l = l.entries.items ≡ take l.index (entries_of l.t)

abbrev pub decreases-loop-entry : goal.decreases-loop-entry
decreases-loop-entry l = length (entries_of l.t) - l.index

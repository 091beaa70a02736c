use Rattle.std.proofs.Common.{◌-◌, ◌≤◌, length}
use Rattle.object_text.proofs.type_relocations.write_section_info.Given as goal

abbrev pub invariant-loop-relocation : goal.invariant-loop-relocation
invariant-loop-relocation g l = l.index ≤ length l.section_info.records

abbrev pub decreases-loop-relocation : goal.decreases-loop-relocation
decreases-loop-relocation g l = length l.section_info.records - l.index

use Rattle.std.proofs.Common.{◌≡◌, ◌++◌, map, take}
use Rattle.kernel_reports.specs.Relocations.{relocation_at}
use Rattle.kernel_reports.proofs.relocations.RelocationScope.add_section_info.Given as goal

abbrev pub invariant-loop-asked : goal.invariant-loop-asked
invariant-loop-asked l = l.list.items ≡ l.initial.list.items ++ map (relocation_at l.self l.name_offset l.section) (take l.asked-index l.asked-items)

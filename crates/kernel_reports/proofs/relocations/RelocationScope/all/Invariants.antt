use Rattle.std.proofs.Common.{◌≡◌, ◌++◌}
use Rattle.std.specs.List.{flat_map}
use Rattle.kernel_reports.specs.Relocations.{relocations_in}
use Rattle.kernel_reports.proofs.relocations.RelocationScope.all.Given as goal

abbrev pub invariant-loop-section_info : goal.invariant-loop-section_info
invariant-loop-section_info l = l.list.items ++ flat_map (relocations_in l.self) l.section_info-iterator ≡ flat_map (relocations_in l.self) l.extension.relocations

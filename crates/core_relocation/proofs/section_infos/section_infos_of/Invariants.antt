use Rattle.std.proofs.Common.{◌≡◌, ◌++◌}
use Rattle.core_relocation.proofs.section_infos.section_infos_of.Given as goal

abbrev pub invariant-loop-section_info : goal.invariant-loop-section_info
invariant-loop-section_info l = l.section_infos.items ++ l.section_info-iterator ≡ l.extension.relocations

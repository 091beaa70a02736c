use Rattle.std.proofs.Common.{◌≡◌}
use Rattle.core_relocation.proofs.Making.{AreSectionInfosMade}
use Rattle.core_relocation.proofs.lookup.Lookup.relocate_section_infos.Given as goal

abbrev pub invariant-loop-section_info : goal.invariant-loop-section_info
invariant-loop-section_info l = (l.matcher ≡ l.fn.matcher) × AreSectionInfosMade l.self l.section_infos l.section_info-index l.fn.relocated.items l.relocated.items

use Rattle.std.proofs.Common.{take}
use Rattle.std.specs.Option.{option_map}
use Rattle.object_file.specs.Named.{last_section}
use Rattle.object_file.proofs.Numbers.{HasNumbers}
use Rattle.object_file.proofs.section_maps.sizes.Given as goal

abbrev pub invariant-loop-section : goal.invariant-loop-section
invariant-loop-section l = HasNumbers (λ q. option_map (λ s. s.size) (last_section (take l.section-index l.sections) q)) l.sizes.entries

use Rattle.std.proofs.Common.{◌≡◌}
use Rattle.std.specs.Prelude.{find}
use Rattle.elf64.specs.Sections.{has_name, section_named}
use Rattle.elf64.proofs.file.ElfFile.section_by_name.Given as goal

abbrev pub invariant-loop-section : goal.invariant-loop-section
invariant-loop-section l = find (has_name l.name) l.section-iterator ≡ section_named l.self l.name

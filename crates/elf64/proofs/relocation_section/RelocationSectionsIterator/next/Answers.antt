use Rattle.std.proofs.Common.{rules, arith}
use Rattle.elf64.specs.Headers.{section_header}
use Rattle.elf64.specs.Relocations.{is_relocation_table}
use Rattle.elf64.proofs.Ranges.{filter-range_first}
use Rattle.elf64.proofs.relocation_section.RelocationSectionsIterator.next.Goals as goal

pub loop-self-preserved : goal.loop-self-preserved
loop-self-preserved c =
    let now = c.loop-self.self-inside in
    let rest = filter-range_first (is_relocation_table now.symbol_table) (section_header now.order now.table.now) now.next now.left (omega arith) (search rules) in
    (rw rest c.loop-self.invariant.0, search rules, search rules)

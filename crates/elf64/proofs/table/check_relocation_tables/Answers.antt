use Rattle.std.proofs.Common.{◌<◌, below_more}
use Rattle.elf64.specs.Headers.{section_header}
use Rattle.elf64.specs.Faults.{IsBadRelocationTable}
use Rattle.elf64.proofs.table.check_relocation_tables.Goals as goal

pub loop-index-preserved : goal.loop-index-preserved
loop-index-preserved c =
    let sound = rw c.section_header-header.ensures at c.if-is_bad_relocation_table.ensures in
    below_more (λ i. 0 < i → IsBadRelocationTable c.args.bytes.now c.args.order c.args.table.now c.args.symbol_table (section_header c.args.order c.args.table.now i) → ⊥) _ c.loop-index.invariant (λ _ bad. let never = sound.1 bad in cc)

use Rattle.std.proofs.Common.{ℕ, ◌<◌}
use Rattle.elf64.specs.Headers.{section_header}
use Rattle.elf64.specs.Faults.{IsBadRelocationTable}
use Rattle.elf64.proofs.table.check_relocation_tables.Given as goal

abbrev pub invariant-loop-index : goal.invariant-loop-index
invariant-loop-index l =
    (i : ℕ) → i < l.index → 0 < i → IsBadRelocationTable l.bytes l.order l.table l.symbol_table (section_header l.order l.table i) → ⊥

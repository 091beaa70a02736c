use Rattle.std.proofs.Common.{◌≡◌, ◌-◌, ◌/◌, ◌==◌, length}
use Rattle.std.specs.Prelude.{find}
use Rattle.std.specs.List.{range_with_len}
use Rattle.elf64.specs.Headers.{section_header}
use Rattle.elf64.specs.Symbols.{symbol_table_index}
use Rattle.elf64.proofs.table.symbol_table_index.Given as goal

abbrev pub invariant-loop-index : goal.invariant-loop-index
invariant-loop-index l =
    find (λ i. (section_header l.order l.table i).kind == 2) (range_with_len l.index (length l.table / 64 - l.index))
    ≡ symbol_table_index l.order l.table

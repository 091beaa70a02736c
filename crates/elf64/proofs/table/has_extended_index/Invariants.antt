use Rattle.std.proofs.Common.{◌≢◌, ℕ, ◌<◌}
use Rattle.elf64.specs.Symbols.{symbol_entry}
use Rattle.elf64.proofs.table.has_extended_index.Given as goal

abbrev pub invariant-loop-index : goal.invariant-loop-index
invariant-loop-index l = (i : ℕ) → 0 < i → i < l.index → (symbol_entry l.order l.entries i).section ≢ 0xffff

use Rattle.std.proofs.Common.{rules, ◌<◌, ◌-◌, ◌/◌, ◌∙◌, sym, length, arith}
use Rattle.elf64.proofs.Ranges.{find-range_first}
use Rattle.elf64.proofs.table.symbol_table_index.Goals as goal

pub loop-index-preserved : goal.loop-index-preserved
loop-index-preserved c =
    let some : 0 < length c.args.table.now / 64 - c.loop-index.index = omega arith in
    sym (find-range_first _ c.loop-index.index (length c.args.table.now / 64 - c.loop-index.index) _ some (omega arith) (search rules)) ∙ c.loop-index.invariant

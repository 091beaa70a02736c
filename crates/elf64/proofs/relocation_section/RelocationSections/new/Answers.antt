use Rattle.std.proofs.Common.{arith}
use Rattle.std.specs.Prelude.{map}
use Rattle.std.specs.List.{range_with_len}
use Rattle.std.proofs.lemmas.List.{length-map}
use Rattle.std.proofs.lemmas.List.Sums.{length-filter, count_by-le-length}
use Rattle.std.proofs.lemmas.List.FromFn.{length-map-range_with_len}
use Rattle.elf64.specs.Headers.{section_header}
use Rattle.elf64.specs.Relocations.{is_relocation_table}
use Rattle.elf64.proofs.relocation_section.RelocationSections.new.Goals as goal

pub returns-clause-countable : goal.returns-clause-countable
returns-clause-countable c =
    let headers = map (section_header c.args.order c.args.table.now) (range_with_len 1 c.saturating_sub.result) in
    let most = count_by-le-length (is_relocation_table c.args.symbol_table) headers in
    let all = length-map-range_with_len (section_header c.args.order c.args.table.now) 1 c.saturating_sub.result in
    rw (length-map, length-filter) (omega (arith, most, all, c.saturating_sub.type_inv))

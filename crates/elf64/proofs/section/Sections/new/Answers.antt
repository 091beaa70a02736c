use Rattle.std.proofs.Common.{arith}
use Rattle.std.proofs.lemmas.List.FromFn.{length-map-range_with_len}
use Rattle.elf64.proofs.section.Sections.new.Goals as goal

pub returns-clause-countable : goal.returns-clause-countable
returns-clause-countable c =
    rw (length-map-range_with_len _ 1 c.saturating_sub.result) (omega (arith, c.saturating_sub.type_inv))

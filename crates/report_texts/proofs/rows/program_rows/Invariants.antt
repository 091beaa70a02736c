use Rattle.std.proofs.Common.{◌≡◌, ◌++◌, map, zip}
use Rattle.std.specs.Iterator.Adapters.{zip_first, zip_second}
use Rattle.std.specs.Slice.Iter.{iter_rest}
use Rattle.report_texts.specs.Rows.{program_rows, shown_program}
use Rattle.report_texts.proofs.rows.program_rows.Given as goal

abbrev pub invariant-loop-name : goal.invariant-loop-name
invariant-loop-name l = map shown_program l.rows.items ++ zip (map (λ n. n.now) (iter_rest (zip_first l.name-iterator))) (map (λ s. s.now) (iter_rest (zip_second l.name-iterator))) ≡ program_rows l.object l.sections

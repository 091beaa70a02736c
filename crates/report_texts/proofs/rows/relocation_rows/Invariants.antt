use Rattle.std.proofs.Common.{◌≡◌, map, take}
use Rattle.report_texts.specs.Rows.{relocation_row, shown_relocation}
use Rattle.report_texts.proofs.rows.relocation_rows.Given as goal

abbrev pub invariant-loop-at : goal.invariant-loop-at
invariant-loop-at l = map shown_relocation l.rows.items ≡ map (relocation_row l.functions l.local) (take l.at-index l.relocations)

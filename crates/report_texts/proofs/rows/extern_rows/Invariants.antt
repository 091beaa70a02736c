use Rattle.std.proofs.Common.{◌≡◌, ◌++◌, map}
use Rattle.std.specs.Option.{option_copied}
use Rattle.object_externs.specs.Names.{by_bytes}
use Rattle.report_texts.specs.Rows.{extern_row, shown_extern}
use Rattle.report_texts.proofs.rows.extern_rows.Given as goal

abbrev pub invariant-loop-name : goal.invariant-loop-name
invariant-loop-name l = map shown_extern l.rows.items ++ map (extern_row (option_copied l.local)) (by_bytes l.name-iterator) ≡ map (extern_row (option_copied l.local)) l.externs.by_name

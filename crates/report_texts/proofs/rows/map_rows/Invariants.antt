use Rattle.std.proofs.Common.{◌≡◌, ◌++◌, map}
use Rattle.object_maps.specs.Maps.{shown}
use Rattle.report_texts.specs.Rows.{map_rows, shown_map}
use Rattle.report_texts.proofs.rows.map_rows.Given as goal

abbrev pub invariant-loop-name : goal.invariant-loop-name
invariant-loop-name l = map shown_map l.rows.items ++ map (λ m. (m.0, m.1.words.map_type)) (shown l.name-iterator) ≡ map_rows l.object

use Rattle.std.proofs.Common.{◌≡◌, map, take}
use Rattle.std.specs.Prelude.{filter_map, slice_get}
use Rattle.object_parse.specs.Kept.{moved_line}
use Rattle.object_parse.proofs.section_records.lines_of.Given as goal

abbrev pub invariant-loop-index : goal.invariant-loop-index
invariant-loop-index l = l.kept.items ≡ map (moved_line l.relative l.start) (filter_map (slice_get l.records) (take l.index-index l.indexes))

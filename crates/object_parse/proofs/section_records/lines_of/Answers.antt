use Rattle.std.proofs.Common.{sym, arith}
use Rattle.std.specs.Prelude.{slice_get}
use Rattle.object_parse.specs.Kept.{moved_line}
use Rattle.object_parse.proofs.Records.{none_kept, one_kept}
use Rattle.object_parse.proofs.section_records.lines_of.Goals as goal
use Rattle.object_parse.proofs.section_records.lines_of.Goals.{in-Some+in_ok-push, in_default}

pub loop-index-preserved : goal.loop-index-preserved
loop-index-preserved c = elim c.match-get.branch [
  | in-Some+in_ok-push w ↦ rw (w.kept-is, w.in_ok-push.ensures.items, w.moved.ensures) (one_kept (moved_line c.args.relative c.args.start) (slice_get c.args.records.now) c.args.indexes.now c.loop-index.index-index 0 w.in-Some.record c.loop-index.kept.items (omega arith) (sym w.in-Some.ensures.value) c.loop-index.invariant)
  | in_default w ↦ rw w.kept-is (none_kept (moved_line c.args.relative c.args.start) (slice_get c.args.records.now) c.args.indexes.now c.loop-index.index-index 0 c.loop-index.kept.items (omega arith) (sym w.in_default.ensures.value) c.loop-index.invariant)
]

use Rattle.std.proofs.Common.{◌≡◌, ◌++◌}
use Rattle.std.specs.Option.{option_copied}
use Rattle.std.specs.Vec.Iter.{into_iter_items}
use Rattle.object_file.specs.Reading.{read_sections}
use Rattle.object_contents.specs.Contents.{AreContentsOf}
use Rattle.object_contents.proofs.contents.read_sections.Given as goal

abbrev pub invariant-loop-view : goal.invariant-loop-view
invariant-loop-view l = record {
  all : l.contents.sections.items ++ into_iter_items l.view-iterator ≡ read_sections l.file;
  are : AreContentsOf l.file (option_copied l.table) (option_copied l.extension) l.contents.sections.items l.contents;
}

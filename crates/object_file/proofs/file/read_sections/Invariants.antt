use Rattle.std.proofs.Common.{◌≡◌, ◌++◌, false}
use Rattle.std.specs.List.{list_any}
use Rattle.std.specs.Vec.Iter.{into_iter_items}
use Rattle.object_file.specs.Reading.{is_unreadable, read_sections}
use Rattle.object_file.specs.Relocations.{has_relocation_without_symbol}
use Rattle.object_file.proofs.file.read_sections.Given as goal

abbrev pub invariant-loop-view : goal.invariant-loop-view
invariant-loop-view l = record {
  all : l.sections.items ++ into_iter_items l.view-iterator ≡ read_sections l.file;
  readable : list_any is_unreadable l.sections.items ≡ false;
  related : list_any (has_relocation_without_symbol l.file) l.sections.items ≡ false;
}

use Rattle.std.proofs.Common.{◌≡◌, ◌++◌}
use Rattle.std.specs.Prelude.{filter}
use Rattle.object_file.specs.Reading.{is_read, read_sections}
use Rattle.object_file.proofs.reading.sections_of.Given as goal

abbrev pub invariant-loop-view : goal.invariant-loop-view
invariant-loop-view l = l.sections.items ++ filter (is_read l.types l.extension) l.view-iterator ≡ read_sections l.elf

use Rattle.std.proofs.Common.{◌≡◌}
use Rattle.std.specs.Prelude.{find}
use Rattle.elf64.specs.Symbols.{symbols_of}
use Rattle.object_file.specs.Symbols.{is_unnamed}
use Rattle.object_file.proofs.symbols.first_unnamed.Given as goal

abbrev pub invariant-loop-view : goal.invariant-loop-view
invariant-loop-view l = find is_unnamed l.view-iterator ≡ find is_unnamed (symbols_of l.elf)

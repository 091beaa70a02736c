use Rattle.std.proofs.Common.{◌≡◌, drop}
use Rattle.std.specs.List.{list_any}
use Rattle.object_externs.specs.Externs.{names_function}
use Rattle.object_externs.proofs.entries.any_names_function.Given as goal

abbrev pub invariant-loop-entry : goal.invariant-loop-entry
invariant-loop-entry l = list_any (names_function l.table) (drop l.entry-index l.entries) ≡ list_any (names_function l.table) l.entries

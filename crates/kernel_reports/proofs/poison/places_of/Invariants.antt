use Rattle.std.proofs.Common.{◌≡◌, ◌++◌, drop}
use Rattle.kernel_reports.specs.Poison.{places_of}
use Rattle.kernel_reports.proofs.poison.places_of.Given as goal

abbrev pub invariant-loop-copy : goal.invariant-loop-copy
invariant-loop-copy l = l.places.items ++ places_of (drop l.copy-index l.copies) ≡ places_of l.copies

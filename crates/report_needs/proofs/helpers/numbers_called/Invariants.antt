use Rattle.std.proofs.Common.{◌≡◌, ◌++◌}
use Rattle.report_needs.specs.Helpers.{numbers_called}
use Rattle.report_needs.proofs.helpers.numbers_called.Given as goal

abbrev pub invariant-loop-slot : goal.invariant-loop-slot
invariant-loop-slot l = l.numbers.items ++ numbers_called l.slot-iterator ≡ numbers_called l.slots

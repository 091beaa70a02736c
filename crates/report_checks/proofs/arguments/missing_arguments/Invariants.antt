use Rattle.std.proofs.Common.{◌≡◌, filter}
use Rattle.std.specs.List.{range_with_len}
use Rattle.report_checks.specs.Arguments.{is_argument_missing}
use Rattle.report_checks.proofs.arguments.missing_arguments.Given as goal

abbrev pub invariant-loop-slot : goal.invariant-loop-slot
invariant-loop-slot l =
    l.missing.items ≡ filter (is_argument_missing l.words l.slots l.reach.offsets) (range_with_len 0 l.slot)

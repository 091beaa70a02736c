use Rattle.std.proofs.Common.{◌≡◌, ◌++◌, drop}
use Rattle.std.specs.Prelude.{filter_map}
use Rattle.report_checks.specs.Codes.{global_slot}
use Rattle.report_checks.proofs.codes.slots_of.Given as goal

abbrev pub invariant-loop-index : goal.invariant-loop-index
invariant-loop-index l =
    l.slots.items ++ filter_map (global_slot l.types) (drop l.index l.functions)
    ≡ filter_map (global_slot l.types) l.functions

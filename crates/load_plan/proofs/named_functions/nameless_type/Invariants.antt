use Rattle.std.proofs.Common.{◌≡◌, not, ◌-◌, drop, length}
use Rattle.std.specs.List.{list_any}
use Rattle.std.specs.Option.{option_copied}
use Rattle.load_plan.specs.NamedFunctions.{names_function}
use Rattle.load_plan.proofs.named_functions.nameless_type.Given as goal

abbrev pub invariant-loop-record : goal.invariant-loop-record
invariant-loop-record l = list_any (λ r. not (names_function (option_copied l.table) r.type_id)) (drop l.index l.records) ≡ list_any (λ r. not (names_function (option_copied l.table) r.type_id)) l.records

abbrev pub decreases-loop-record : goal.decreases-loop-record
decreases-loop-record l = length l.records - l.index

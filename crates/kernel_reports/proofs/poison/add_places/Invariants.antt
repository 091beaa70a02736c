use Rattle.std.proofs.Common.{◌≡◌, ◌++◌, ◌-◌, map}
use Rattle.std.specs.List.{range_with_len}
use Rattle.kernel_reports.specs.Poison.{places_in}
use Rattle.kernel_reports.proofs.poison.add_places.Given as goal

abbrev pub invariant-loop-index : goal.invariant-loop-index
invariant-loop-index l = l.places.items ++ map (λ index. (l.copy.key, index)) (range_with_len l.index (l.copy.len - l.index)) ≡ l.fn.places.items ++ places_in l.copy

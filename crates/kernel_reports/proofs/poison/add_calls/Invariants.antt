use Rattle.std.proofs.Common.{◌≡◌, ◌++◌, drop}
use Rattle.std.specs.Prelude.{filter_map}
use Rattle.kernel_reports.specs.Poison.{poison_at}
use Rattle.kernel_reports.proofs.poison.add_calls.Given as goal

abbrev pub invariant-loop-call : goal.invariant-loop-call
invariant-loop-call l = l.poison.items ++ filter_map (poison_at l.places) (drop l.call-index l.calls) ≡ l.fn.poison.items ++ filter_map (poison_at l.places) l.calls

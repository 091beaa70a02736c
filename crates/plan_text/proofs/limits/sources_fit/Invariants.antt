use Rattle.std.proofs.Common.{◌-◌, length, take}
use Rattle.std.specs.List.{All}
use Rattle.plan_text.specs.Content.{FitsSource}
use Rattle.plan_text.proofs.limits.sources_fit.Given as goal

abbrev pub invariant-loop-info : goal.invariant-loop-info
invariant-loop-info l = All FitsSource (take l.index l.records)

abbrev pub decreases-loop-info : goal.decreases-loop-info
decreases-loop-info l = length l.records - l.index

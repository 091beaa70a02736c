use Rattle.std.proofs.Common.{◌≡◌, map, take}
use Rattle.std.specs.BTreeSet.{contains}
use Rattle.kernel_reports.specs.Reaches.{place_cmp, reach_among}
use Rattle.kernel_reports.proofs.reach.reaches_at.Given as goal

abbrev pub invariant-loop-at : goal.invariant-loop-at
invariant-loop-at l = l.reaches.items ≡ map (reach_among (contains place_cmp l.slots) (contains place_cmp l.reached)) (take l.at-index l.relocations)

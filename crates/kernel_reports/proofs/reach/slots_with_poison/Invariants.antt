use Rattle.std.proofs.Common.{◌≡◌, take}
use Rattle.std.specs.BTreeSet.{contains}
use Rattle.kernel_reports.specs.Poison.{SlotPlace}
use Rattle.kernel_reports.specs.Reaches.{has_poison, place_cmp}
use Rattle.kernel_reports.proofs.reach.slots_with_poison.Given as goal

abbrev pub invariant-loop-place : goal.invariant-loop-place
invariant-loop-place l = (place : SlotPlace) → contains place_cmp l.slots place ≡ has_poison (take l.place-index l.poison) place

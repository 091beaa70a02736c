use Rattle.std.proofs.Common.{◌≡◌, take}
use Rattle.std.specs.BTreeSet.{contains}
use Rattle.kernel_reports.specs.Poison.{SlotPlace}
use Rattle.kernel_reports.specs.Reaches.{has_reached, place_cmp}
use Rattle.kernel_reports.proofs.reach.reached_slots.Given as goal

abbrev pub invariant-loop-found : goal.invariant-loop-found
invariant-loop-found l = (place : SlotPlace) → contains place_cmp l.slots place ≡ has_reached (take l.found-index l.poison) place

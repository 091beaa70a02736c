use Rattle.std.proofs.Common.{◌≡◌, ◌||◌, ℕ}
use Rattle.std.specs.BTreeSet.{contains}
use Rattle.std.specs.Ordering.{nat_cmp}
use Rattle.object_maps.specs.Maps.{shown}
use Rattle.load_plan.specs.Numbering.{is_taken, names_of}
use Rattle.load_plan.proofs.numbering.set_numbers.Given as goal

abbrev pub invariant-loop-name : goal.invariant-loop-name
invariant-loop-name l = (n : ℕ) → (contains nat_cmp l.used n || is_taken (names_of (shown l.name-iterator)) l.settings n) ≡ is_taken (names_of l.maps) l.settings n

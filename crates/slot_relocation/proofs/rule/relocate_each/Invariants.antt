use Rattle.std.proofs.Common.{◌≡◌, ◌++◌, ℕ, List, true}
use Rattle.slot_relocation.specs.Walks.{are_sound}
use Rattle.slot_relocation.specs.Writes.{after_all}
use Rattle.slot_relocation.proofs.rule.relocate_each.Given as goal

abbrev pub invariant-loop-offset : goal.invariant-loop-offset
invariant-loop-offset g l = (done : List (ℕ × g.row.A.Denot)) × ((done ++ l.offset-iterator ≡ l.fn.relocations) × (l.slots ≡ after_all (g.R.Rule.rule l.rule) l.function done) × (are_sound (g.R.Rule.rule l.rule) l.function l.function.instructions done ≡ true))

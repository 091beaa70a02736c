use Rattle.std.specs.List.{All}
use Rattle.plan_text.specs.Content.{FitsSlot}
use Rattle.plan_text.proofs.limits.slots_fit.Given as goal

-- All slots fit if the remaining slots fit.
abbrev pub invariant-loop-slot : goal.invariant-loop-slot
invariant-loop-slot l = All FitsSlot l.slot-iterator → All FitsSlot l.slots

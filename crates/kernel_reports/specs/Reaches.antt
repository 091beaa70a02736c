-- Whether a run can reach the poison in the instruction of a type relocation.
use Rattle.std.specs.Prelude.{◌&&◌, Bool, List, length, map, replicate, Option, None, Some, option_and_then, if◌then◌else◌}
use Rattle.std.specs.BTreeMap.{is_at}
use Rattle.std.specs.List.{list_any}
use Rattle.std.specs.Ordering.{nat_cmp, ordering_then}
use Rattle.std.specs.declared.cmp.Ordering.{Ordering}
use Rattle.object_parts.specs.Content.{key_cmp}
use Rattle.ebpf_object.specs.ParsedObject.{ObjectContent}
use Rattle.plan_text.specs.Content.{PlanContent}
use Rattle.report_checks.specs.declared.reports.PlanReport.{PlanReport}
use Rattle.kernel_reports.specs.Poison.{SlotPlace, poison_of}
use Rattle.kernel_reports.specs.declared.reach.Reach.{Reach}
use Rattle.kernel_reports.specs.declared.reach.Reach.TheVariants.{CutOff, Reached}
use Rattle.kernel_reports.specs.declared.relocations.RelocationAt.{RelocationAt}

-- The order of slots: by the key of the function, then by the index.
abbrev pub place_cmp : SlotPlace → SlotPlace → Ordering
place_cmp a b = ordering_then (key_cmp a.0 b.0) (nat_cmp a.1 b.1)

-- Whether poison is in a slot, and a run can reach it.
abbrev pub is_reached_in : SlotPlace → SlotPlace × Bool → Bool
is_reached_in place p = is_at (place_cmp p.0) place && p.1

-- Whether there is poison in a slot.
abbrev pub has_poison : List (SlotPlace × Bool) → SlotPlace → Bool
has_poison poison place = list_any (λ p. is_at (place_cmp p.0) place) poison

-- Whether a run can reach some of the poison in a slot.
abbrev pub has_reached : List (SlotPlace × Bool) → SlotPlace → Bool
has_reached poison place = list_any (is_reached_in place) poison

-- The reach of the poison in a relocation's instruction, given which slots have poison, and in
-- which of them a run can reach it. There is none without an instruction or poison.
abbrev pub reach_among : (SlotPlace → Bool) → (SlotPlace → Bool) → RelocationAt → Option Reach
reach_among poisoned reached at =
    option_and_then (λ place.
    if reached (place.key, place.index) then Some Reached
    else (if poisoned (place.key, place.index) then Some CutOff else None)) at.place

abbrev pub reach_of : List (SlotPlace × Bool) → RelocationAt → Option Reach
reach_of poison at = reach_among (has_poison poison) (has_reached poison) at

-- No reach of any relocation.
abbrev pub no_reaches : List RelocationAt → List (Option Reach)
no_reaches relocations = replicate (length relocations) None

-- The reach of each relocation, by a plan and what the kernel makes of it. There is none if the
-- kernel's types aren't given.
abbrev pub reaches_of : ObjectContent
    → PlanContent
    → Option PlanReport
    → List RelocationAt
    → List (Option Reach)
reaches_of o plan None relocations = no_reaches relocations
reaches_of o plan (Some report) relocations = map (reach_of (poison_of o plan report)) relocations

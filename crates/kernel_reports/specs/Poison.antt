-- The poison in the programs of a plan: calls of the helper 0xbad2310. A type relocation without a
-- value leaves one in place of an instruction.
use Rattle.std.specs.Prelude.{ℕ, Bool, true, false, List, [], map, filter_map, Option, None, slice_get, if◌then◌else◌}
use Rattle.std.specs.List.{flat_map, range_with_len, zip}
use Rattle.std.specs.Option.{option_map, option_map_or}
use Rattle.load_plan.specs.Passes.{unlinked_of}
use Rattle.ebpf_object.specs.ParsedObject.{ObjectContent}
use Rattle.plan_copies.specs.Copies.{copies_of}
use Rattle.plan_copies.specs.declared.copies.FunctionCopy.{FunctionCopy}
use Rattle.plan_text.specs.Content.{PlanContent, ProgramContent}
use Rattle.report_checks.specs.declared.calls.CallCause.{CallCause}
use Rattle.report_checks.specs.declared.calls.CallCause.TheVariants.{MissingFunction, MissingHelper, Poison}
use Rattle.report_checks.specs.declared.reported_calls.HarmfulCall.{HarmfulCall}
use Rattle.report_checks.specs.declared.reports.PlanReport.{PlanReport}
use Rattle.report_checks.specs.declared.reports.ProgramReport.{ProgramReport}
use Rattle.string_table.specs.Names.{value_of}

-- A slot of a function of the object: the function's key, which is the index of its section and its
-- address, and the index of the slot.
abbrev pub SlotPlace : Type 0
SlotPlace = (ℕ × ℕ) × ℕ

-- The slots of the function that a copy's slots are copies of, in order.
abbrev pub places_in : FunctionCopy → List SlotPlace
places_in copy = map (λ index. (copy.key, index)) (range_with_len 0 copy.len)

-- The same of all copies in a program. They follow one another from slot 0 on (AreCopies of
-- plan_copies), so the place at an index is that of the program's slot with this index.
abbrev pub places_of : List FunctionCopy → List SlotPlace
places_of copies = flat_map places_in copies

-- The copies of functions in a program of a plan. The program's own function is that of the
-- object's program of the same name. There are no copies if the object has no such program.
abbrev pub copies_in : ObjectContent → ProgramContent → List FunctionCopy
copies_in o p =
    option_map_or (λ own. copies_of (unlinked_of o) (own.section_index, own.address) p.slots)
    (value_of p.name o.programs) []

abbrev pub is_poison : CallCause → Bool
is_poison Poison = true
is_poison MissingFunction = false
is_poison (MissingHelper number) = false

-- The poison that a call is, if it is poison: the slot of a function that the call's slot is a copy
-- of, and whether a run of the program can reach the call.
abbrev pub poison_at : List SlotPlace → HarmfulCall → Option (SlotPlace × Bool)
poison_at places call =
    if is_poison call.cause
    then option_map (λ place. (place, call.is_reached)) (slice_get places call.slot)
    else None

-- All poison in a program.
abbrev pub poison_in : ObjectContent → ProgramContent → ProgramReport → List (SlotPlace × Bool)
poison_in o p report = filter_map (poison_at (places_of (copies_in o p))) report.calls.items

-- All poison in the programs of a plan.
abbrev pub poison_of : ObjectContent → PlanContent → PlanReport → List (SlotPlace × Bool)
poison_of o plan report =
    flat_map (λ p. poison_in o p.0 p.1) (zip plan.programs report.programs.items)

-- What a kernel makes of a plan.
use Rattle.std.specs.Prelude.{◌≡◌, ◌↔◌, ℕ, Bool, List, [], IfSome, IsTrue, Option, Some, filter, is_some, length, map, slice_get}
use Rattle.std.specs.Borrow.{Bor}
use Rattle.std.specs.List.{All, range_with_len}
use Rattle.std.specs.Option.{IsSomeAnd, option_map_or}
use Rattle.btf_tables.specs.Tables.{Table}
use Rattle.plan_registers.specs.Reach.{AreReached, IsReached, Reached}
use Rattle.plan_text.specs.Content.{MapContent, PlanContent, ProgramContent}
use Rattle.report_needs.specs.Enums.{map_presence}
use Rattle.report_needs.specs.Needs.{AreNeeds}
use Rattle.report_needs.specs.declared.enums.Presence.{Presence}
use Rattle.report_types.specs.Contexts.{context_words}
use Rattle.report_checks.specs.Arguments.{missing_arguments}
use Rattle.report_checks.specs.Attachments.{attachment_of}
use Rattle.report_checks.specs.Calls.{cause_at}
use Rattle.report_checks.specs.Causes.{causes_of, unknowns_of}
use Rattle.report_checks.specs.Codes.{KnownCode, code_of, plan_code}
use Rattle.report_checks.specs.Sources.{line_record_at}
use Rattle.report_checks.specs.declared.reported_calls.HarmfulCall.{HarmfulCall}
use Rattle.report_checks.specs.declared.reports.PlanReport.{PlanReport}
use Rattle.report_checks.specs.declared.reports.ProgramReport.{ProgramReport}

-- A call that the kernel doesn't accept: the cause, whether a run can reach it, and the record of
-- its source line.
pub record IsHarmfulCall (kernel : Table) (known : KnownCode) (p : ProgramContent) (call : HarmfulCall)
    : Type 0 where
  pub cause : cause_at kernel p.slots call.slot ≡ Some call.cause
  pub reached : IsTrue call.is_reached ↔ IsReached (code_of known p) call.slot
  pub line : call.line ≡ line_record_at p call.slot

-- The slots below `count` whose calls the kernel doesn't accept, in order.
abbrev pub harmful_slots : Table → ProgramContent → ℕ → List ℕ
harmful_slots kernel p count =
    filter (λ slot. is_some (cause_at kernel p.slots slot)) (range_with_len 0 count)

-- All such calls below `count`, in the order of the slots.
pub record AreHarmfulCalls (kernel : Table) (known : KnownCode) (p : ProgramContent) (count : ℕ)
    (calls : List HarmfulCall) : Type 0 where
  pub slots : map (λ call. call.slot) calls ≡ harmful_slots kernel p count
  pub each : All (IsHarmfulCall kernel known p) calls

-- What a kernel makes of a program in a section, given the plan's maps with whether the kernel has
-- their types, and whether it refuses the plan's types.
pub record IsProgramReport (kernel : Table) (known : KnownCode) (maps : List MapContent)
    (presences : List Presence) (are_refused : Bool) (section : List ℕ) (p : ProgramContent)
    (r : ProgramReport) : Type 0 where
  pub calls : AreHarmfulCalls kernel known p (length p.slots) r.calls.items
  pub needs : AreNeeds kernel p.section section p.slots r.needs
  pub reached : Reached
  pub reach : AreReached (code_of known p) reached
  pub causes :
      r.causes.items
      ≡ causes_of maps presences are_refused p r.calls.items
      (missing_arguments (context_words kernel p.section r.needs.target) p.slots reached.offsets
      (length p.slots)) r.needs
  pub unknowns : r.unknowns.items ≡ unknowns_of maps presences p r.needs
  pub attachment : r.attachment ≡ attachment_of kernel p.section section

-- The name of the section of the program at an index, or an empty name if none is given.
abbrev pub section_at : List (Bor (List ℕ)) → ℕ → List ℕ
section_at sections index = option_map_or (λ section. section.now) (slice_get sections index) []

-- The report on the program at an index.
abbrev pub IsReportAt : Table
    → KnownCode
    → List MapContent
    → List Presence
    → Bool
    → List (Bor (List ℕ))
    → List ProgramContent
    → List ProgramReport
    → ℕ
    → Type 0
IsReportAt kernel known maps presences are_refused sections programs reports index =
    IfSome (slice_get programs index) (λ p.
    IsSomeAnd (slice_get reports index)
    (IsProgramReport kernel known maps presences are_refused (section_at sections index) p))

pub record AreProgramReports (kernel : Table) (known : KnownCode) (maps : List MapContent)
    (presences : List Presence) (are_refused : Bool) (sections : List (Bor (List ℕ)))
    (programs : List ProgramContent) (reports : List ProgramReport) : Type 0 where
  pub count : length reports ≡ length programs
  pub each :
      (index : ℕ)
      → IsReportAt kernel known maps presences are_refused sections programs reports index

abbrev pub map_presences : Table → List MapContent → List Presence
map_presences kernel maps = map (λ m. map_presence kernel m.words.map_type) maps

-- What a kernel makes of a plan of an object with these types: of each program, and of each map's
-- type. A record of types that each kernel refuses may be given, and then the types are refused.
pub record IsPlanReport (kernel : Table) (types : Option Table) (sections : List (Bor (List ℕ)))
    (plan : PlanContent) (r : PlanReport) : Type 0 where
  pub programs :
      AreProgramReports kernel (plan_code (Some kernel) plan.maps types) plan.maps
      (map_presences kernel plan.maps) (is_some r.refused_type) sections plan.programs
      r.programs.items
  pub maps : r.maps.items ≡ map_presences kernel plan.maps

-- What is known of the kernel of a file.
use Rattle.std.specs.Prelude.{Bool, true, false, not, ◌&&◌, ◌||◌, List, [], ◌∷◌, Option, None, Some, is_some, option_and_then, if◌then◌else◌}
use Rattle.std.specs.List.{list_any, zip}
use Rattle.report_checks.specs.declared.reports.PlanReport.{PlanReport}
use Rattle.report_checks.specs.declared.reports.ProgramReport.{ProgramReport}
use Rattle.report_checks.specs.declared.attachments.Attachment.{Attachment}
use Rattle.report_checks.specs.declared.attachments.Attachment.TheVariants.{Missing}
use Rattle.report_checks.specs.declared.causes.ProgramCause.{ProgramCause}
use Rattle.report_texts.specs.declared.columns.ColumnAnswer.{ColumnAnswer}
use Rattle.report_texts.specs.declared.columns.ColumnAnswer.TheVariants.{Report, Unread}
use Rattle.report_texts.specs.declared.columns.ColumnPlan.{ColumnPlan}
use Rattle.report_texts.specs.declared.columns.ColumnPlan.TheVariants.{Planned, Refused}
use Rattle.report_texts.specs.declared.columns.ColumnReport.{ColumnReport}
use Rattle.report_texts.specs.declared.rows.ExternKind.{ExternKind}
use Rattle.report_texts.specs.declared.rows.ExternKind.TheVariants.{Function, Symbol, Variable}
use Rattle.report_texts.specs.declared.rows.ExternRow.{ExternRow}
use Rattle.report_texts.specs.declared.rows.ProgramRow.{ProgramRow}
use Rattle.report_texts.specs.declared.rows.Rows.{Rows}

-- The report, where the file is read as a kernel's types.
abbrev pub report_of : ColumnAnswer → Option ColumnReport
report_of (Unread why) = None
report_of (Report report) = Some report

-- What the kernel makes of the plan, where there is one.
abbrev pub planned : ColumnPlan → Option PlanReport
planned (Refused refusal) = None
planned (Planned report) = report

abbrev pub plan_report_of : ColumnAnswer → Option PlanReport
plan_report_of answer = option_and_then (λ report. planned report.plan) (report_of answer)

abbrev pub is_unread : ColumnAnswer → Bool
is_unread (Unread why) = true
is_unread (Report report) = false

abbrev pub has_cause : List ProgramCause → Bool
has_cause [] = false
has_cause (cause ∷ causes) = true

-- Whether there is a cause against a program that the object needs. A strict check takes what isn't
-- known for a cause.
abbrev pub is_needed : Bool → ProgramRow × ProgramReport → Bool
is_needed is_strict p =
    not p.0.is_optional
    && (has_cause p.1.causes.items || (is_strict && has_cause p.1.unknowns.items))

abbrev pub lacks_program : Bool → List ProgramRow → List ProgramReport → Bool
lacks_program is_strict programs reports = list_any (is_needed is_strict) (zip programs reports)

-- Whether an extern is a symbol that the kernel must have and that isn't known, since no symbols are
-- given.
abbrev pub is_symbol : ExternKind → Bool
is_symbol Symbol = true
is_symbol Function = false
is_symbol Variable = false

abbrev pub is_unknown_symbol : Bool → ExternRow → Bool
is_unknown_symbol has_symbols row = not has_symbols && (not row.is_weak && is_symbol row.kind)

abbrev pub has_unknown_symbol : Bool → List ExternRow → Bool
has_unknown_symbol has_symbols externs = list_any (is_unknown_symbol has_symbols) externs

-- Whether the object needs a program, and what it is attached to once it is loaded is missing.
abbrev pub is_missing : Attachment → Bool
is_missing Missing = true
is_missing _ = false

abbrev pub is_unattached : ProgramRow × Attachment → Bool
is_unattached p = not p.0.is_optional && is_missing p.1

abbrev pub has_unattached : List ProgramRow → List Attachment → Bool
has_unattached programs attachments = list_any is_unattached (zip programs attachments)

-- Whether something is a cause in a strict check alone.
abbrev pub has_strict_cause : Rows → ColumnReport → Bool
has_strict_cause rows report =
    has_unknown_symbol report.has_symbols rows.externs.items
    || has_unattached rows.programs.items report.attachments.items

-- Whether the kernel takes the plan of the object of these rows, as far as its types say.
abbrev pub is_plan_taken : Rows → ColumnReport → ColumnPlan → Bool
is_plan_taken rows report (Refused refusal) = false
is_plan_taken rows report (Planned None) = true
is_plan_taken rows report (Planned (Some plan)) =
    not (lacks_program rows.is_strict rows.programs.items plan.programs.items)
    && not (rows.is_strict && has_strict_cause rows report)

-- Whether the kernel takes the object: there is no cause against it for every kernel, there is a
-- plan, and the kernel takes the plan.
abbrev pub is_taken : Rows → ColumnReport → Bool
is_taken rows report =
    if is_some rows.object_cause then false else is_plan_taken rows report report.plan

abbrev pub fails : Rows → ColumnAnswer → Bool
fails rows (Unread why) = false
fails rows (Report report) = not (is_taken rows report)

-- The answers on an object and kernels.
use Rattle.std.specs.Prelude.{ℕ, Bool, true, false, not, ◌&&◌, ◌||◌, List, length, filter, Option, None, Some, if◌then◌else◌}
use Rattle.std.specs.List.{list_any, zip}
use Rattle.report_checks.specs.declared.reports.PlanReport.{PlanReport}
use Rattle.report_checks.specs.declared.reports.ProgramReport.{ProgramReport}
use Rattle.report_texts.specs.Columns.{fails, has_cause, has_unknown_symbol, is_unread, plan_report_of, report_of}
use Rattle.report_texts.specs.declared.columns.Column.{Column}
use Rattle.report_texts.specs.declared.columns.ColumnReport.{ColumnReport}
use Rattle.report_texts.specs.declared.rows.ProgramRow.{ProgramRow}
use Rattle.report_texts.specs.declared.rows.Rows.{Rows}
use Rattle.report_objects.specs.declared.object_report.ObjectReport.{ObjectReport}

abbrev pub has_failing : ObjectReport → Bool
has_failing report = list_any (λ column. fails report.rows column.answer) report.columns.items

abbrev pub has_unread : ObjectReport → Bool
has_unread report = list_any (λ column. is_unread column.answer) report.columns.items

-- Whether something isn't known of what a program needs that isn't optional.
abbrev pub lacks_knowledge : ProgramRow × ProgramReport → Bool
lacks_knowledge p = not p.0.is_optional && has_cause p.1.unknowns.items

abbrev pub has_unknown : List ProgramRow → List ProgramReport → Bool
has_unknown programs reports = list_any lacks_knowledge (zip programs reports)

-- Whether something isn't known of a plan, or of the symbols that the object needs.
abbrev pub has_unknown_in : Rows → Option ColumnReport → Option PlanReport → Bool
has_unknown_in rows None plan = false
has_unknown_in rows (Some report) None = false
has_unknown_in rows (Some report) (Some plan) =
    has_unknown rows.programs.items plan.programs.items
    || has_unknown_symbol report.has_symbols rows.externs.items

-- Whether the answer on a kernel isn't known: its file can't be read, or the kernel takes the object
-- as far as is known, and something isn't.
abbrev pub is_unknown : Rows → Column → Bool
is_unknown rows column =
    if is_unread column.answer then true
    else (if fails rows column.answer then false
    else has_unknown_in rows (report_of column.answer) (plan_report_of column.answer))

-- How many kernels don't take the object, and for how many the answer isn't known.
abbrev pub fail_count : ObjectReport → ℕ
fail_count report = length (filter (λ column. fails report.rows column.answer) report.columns.items)

abbrev pub unknown_count : ObjectReport → ℕ
unknown_count report = length (filter (is_unknown report.rows) report.columns.items)

use Rattle.std.proofs.Common.{◌≡◌, ℕ, ◌<◌, length}
use Rattle.report_checks.specs.Reports.{IsReportAt}
use Rattle.report_checks.proofs.reports.program_reports.Given as goal

abbrev pub invariant-loop-index : goal.invariant-loop-index
invariant-loop-index l = record {
  count : length l.reports.items ≡ l.index;
  each : (index : ℕ) → index < l.index → IsReportAt l.kernel l.code l.fn.shared.maps.now l.fn.shared.presences.now l.fn.shared.are_types_refused l.sections l.programs l.reports.items index;
}

use Rattle.std.proofs.Common.{◌≡◌, None, drop, filter}
use Rattle.std.specs.List.{last_or}
use Rattle.report_checks.specs.Sources.{is_before}
use Rattle.report_checks.proofs.sources.line_record_at.Given as goal

abbrev pub invariant-loop-index : goal.invariant-loop-index
invariant-loop-index l =
    last_or l.found (filter (is_before l.slot) (drop l.index l.program.line_records))
    ≡ last_or None (filter (is_before l.slot) l.program.line_records)

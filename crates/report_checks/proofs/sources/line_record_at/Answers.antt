use Rattle.std.proofs.Common.{◌≡◌, ◌∙◌, None, ap, filter, rules, slice_get, sym}
use Rattle.std.specs.List.{last_or}
use Rattle.report_checks.specs.Sources.{is_before}
use Rattle.report_checks.proofs.Lasts.{none_missing, not_passed, passed}
use Rattle.report_checks.proofs.sources.line_record_at.Goals as goal
use Rattle.report_checks.proofs.sources.line_record_at.Goals.{in-Some+then-is_before, in-Some+else-is_before, in_default}

pub loop-index-preserved : goal.loop-index-preserved
loop-index-preserved c =
    let xs = c.args.program.now.line_records in
    let i = c.loop-index.index in
    let all = last_or None (filter (is_before c.args.slot) xs) in
    let got : c.get.result ≡ slice_get xs i = c.get.ensures.value ∙ ap (λ l. slice_get l i) c.line_records-lines.ensures in
    elim c.match-get.branch [
      | in-Some+then-is_before w ↦ rw w.found-is (passed (is_before c.args.slot) xs i w.in-Some.line c.loop-index.found all c.loop-index.invariant (sym w.in-Some.is ∙ got) (search rules))
      | in-Some+else-is_before w ↦ rw w.found-is (not_passed (is_before c.args.slot) xs i w.in-Some.line c.loop-index.found all c.loop-index.invariant (sym w.in-Some.is ∙ got) (search rules))
      | in_default w ↦ absurd (none_missing xs i (search rules) (sym got ∙ w.in_default.is))
    ]

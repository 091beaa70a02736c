use Rattle.std.proofs.Common.{rules, ◌≡◌, ℕ, Some, slice_get, sym, ap, ◌∙◌}
use Rattle.std.proofs.lemmas.Option.{slice_get-get_or}
use Rattle.plan_text.specs.Content.{ProgramContent}
use Rattle.report_checks.specs.Reports.{IsProgramReport, section_at}
use Rattle.report_checks.specs.declared.reports.ProgramReport.{ProgramReport}
use Rattle.report_checks.proofs.Pairs.{all_of, one_more}
use Rattle.report_checks.proofs.reports.program_reports.Goals as goal

pub loop-index-preserved : goal.loop-index-preserved
loop-index-preserved c =
    let i = c.loop-index.index in
    let xs = c.args.programs.now in
    let Is : ℕ → ProgramContent → ProgramReport → Type 0 = λ k p r. IsProgramReport c.args.kernel.now c.args.code.now c.args.shared.maps.now c.args.shared.presences.now c.args.shared.are_types_refused (section_at c.args.sections.now k) p r in
    let there : slice_get xs i ≡ Some c.index-programs-index.result =
    slice_get-get_or xs i c.index-programs-index.result (search rules) ∙ ap Some (sym c.index-programs-index.is) in
    let one : IsProgramReport c.args.kernel.now c.args.code.now c.args.shared.maps.now c.args.shared.presences.now c.args.shared.are_types_refused (section_at c.args.sections.now i) c.index-programs-index.result c.in_ok-report.report = search rules in
    let items = c.in_ok-push.ensures.items in
    rw items (record {
      count = search rules;
      each = one_more Is xs i c.loop-index.reports.items c.index-programs-index.result c.in_ok-report.report c.loop-index.invariant.count c.loop-index.invariant.each there one;
    })

pub returns : goal.returns
returns c = record {
  count = search rules;
  each = all_of (λ k p r. IsProgramReport c.args.kernel.now c.args.code.now c.args.shared.maps.now c.args.shared.presences.now c.args.shared.are_types_refused (section_at c.args.sections.now k) p r) c.args.programs.now c.loop-index.index c.loop-index.reports.items (search rules) c.loop-index.invariant.each;
}

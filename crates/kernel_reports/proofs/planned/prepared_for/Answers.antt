use Rattle.std.proofs.Common.{◌≡◌, sym, ◌∙◌, rules, slice_get}
use Rattle.std.specs.Option.{option_copied}
use Rattle.kernel_reports.specs.Grants.{grants_of}
use Rattle.kernel_reports.proofs.Known.{planned_says, refused_says}
use Rattle.kernel_reports.proofs.planned.prepared_for.Goals as goal

pub returns-in-Ok : goal.returns-in-Ok
returns-in-Ok c =
    let said = c.in-Ok.ensures.planned in
    planned_says _ (grants_of (slice_get c.args.kernel.now 0)) (λ s. option_copied s.0 ≡ slice_get c.args.kernel.now 0) (λ s t f b keeps called. search rules) _ c.first-first.ensures _ _ (λ answer says. search rules) c.args.object.now _ c.args.kernel.now said.0 c.args.symbols.now _ c.args.settings.now _
    c.tables.ensures (rw c.new-symbols.ensures.inner at said.1) (sym c.failed.ensures ∙ c.if-failed.false) said.2

pub returns-in_ok-refusal-in-Err : goal.returns-in_ok-refusal-in-Err
returns-in_ok-refusal-in-Err c =
    let other = c.in_ok-refusal-in-Err.ensures.1 in
    let said = c.in-Err.ensures.refused other in
    refused_says _ (grants_of (slice_get c.args.kernel.now 0)) (λ s. option_copied s.0 ≡ slice_get c.args.kernel.now 0) (λ s t f b keeps called. search rules) _ c.first-first.ensures c.args.object.now _ c.args.kernel.now said.0 c.args.symbols.now _ c.args.settings.now _ _
    c.tables.ensures (rw c.new-symbols.ensures.inner at said.1) (sym c.failed.ensures ∙ c.if-failed.false) c.in_ok-refusal-in-Err.ensures.0 other said.2

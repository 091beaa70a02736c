use Rattle.std.proofs.Common.{sym, ◌∙◌}
use Rattle.kernel_reports.proofs.ExternPresences.{nothing_of, presences_are}
use Rattle.kernel_reports.proofs.presences.presences_of.Goals as goal

pub returns-in-Ok : goal.returns-in-Ok
returns-in-Ok c =
    let resolved = c.in-Ok.ensures.resolved in
    rw c.in-Some.is (presences_are c.in-Some.table.now _ resolved.0 c.args.symbols.now _ c.args.has_symbols c.args.externs.now _ _ _
    (rw c.new-symbols.ensures.inner at resolved.1) (sym c.failed.ensures ∙ c.if-failed.false) c.in_ok-weak.ensures resolved.2 c.in_ok-said-in-Ok.ensures)

pub returns : goal.returns
returns c =
    let refused = c.in-Err.ensures.refused c.in_ok-_fault-in-Err.ensures.1 in
    rw c.in-Some.is (nothing_of c.in-Some.table.now _ refused.0 c.args.symbols.now _ c.args.has_symbols c.args.externs.now _ _ _
    (rw c.new-symbols.ensures.inner at refused.1) (sym c.failed.ensures ∙ c.if-failed.false) c.in_ok-weak.ensures refused.2 c.in_ok-said-in-Err.ensures)

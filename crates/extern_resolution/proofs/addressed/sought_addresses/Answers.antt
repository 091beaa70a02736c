use Rattle.std.proofs.Common.{sym, ◌∙◌, subst}
use Rattle.extern_resolution.specs.Steps.{AreSoughtNames}
use Rattle.extern_resolution.proofs.Seeking.{all_sought, cannot_seek, nothing_sought}
use Rattle.extern_resolution.proofs.addressed.sought_addresses.Goals as goal

pub returns-then-not-is_any_sought-clause-found : goal.returns-then-not-is_any_sought-clause-found
returns-then-not-is_any_sought-clause-found g c = nothing_sought c.args.externs.now.by_name _ _ c.none.result (sym c.is_any_sought.ensures ∙ c.if-not-is_any_sought.true)

pub returns-in-Ok-clause-found : goal.returns-in-Ok-clause-found
returns-in-Ok-clause-found g c =
    let names : AreSoughtNames c.args.externs.now.by_name c.deref.result.now = subst (AreSoughtNames c.args.externs.now.by_name) (sym c.deref.ensures.value) c.in_ok-names.ensures in
    all_sought c.args.externs.now.by_name c.deref.result.now _ _ c.in-Ok.addresses c.in-Ok.ensures.sound names c.in-Ok.ensures.found

pub returns-clause-refused : goal.returns-clause-refused
returns-clause-refused g c =
    let names : AreSoughtNames c.args.externs.now.by_name c.deref.result.now = subst (AreSoughtNames c.args.externs.now.by_name) (sym c.deref.ensures.value) c.in_ok-names.ensures in
    cannot_seek c.args.externs.now.by_name c.deref.result.now _ _ c.in-Err.error c.ksyms_error.result (sym c.is_any_sought.ensures ∙ c.if-not-is_any_sought.false) names c.ksyms_error.ensures c.in-Err.ensures.refused

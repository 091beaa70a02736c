use Rattle.std.proofs.Common.{◌≡◌, Some, ap, sym, ◌∙◌}
use Rattle.object_externs.specs.Externs.{ExternContent, declared}
use Rattle.object_externs.specs.Names.{by_bytes}
use Rattle.object_externs.proofs.ByBytes.{inserted}
use Rattle.object_externs.proofs.Entered.{entered}
use Rattle.object_externs.proofs.entries.enter.Goals as goal

pub returns-clause-externs : goal.returns-clause-externs
returns-clause-externs c =
    let same : c.desc.inside.name.now ≡ c.in_ok-desc.desc.name = ap (λ (e : ExternContent). e.name) c.desc.view_is in
    let named = c.in_ok-desc.ensures.name ∙ ap Some (sym same) in
    let value = c.in_ok-desc.ensures.value ∙ ap (declared c.args.symbols.now c.args.table.now c.args.entry.now.btf_type c.in_ok-t.t) (sym same) in
    ap by_bytes c.in_ok-insert.ensures.entries
    ∙ inserted c.args.externs.now.entries c.desc.inside.name c.in_ok-desc.desc
    ∙ entered c.args.symbols.now c.args.table.now c.args.entry.now c.in_ok-t.t (by_bytes c.args.externs.now.entries) c.desc.inside.name.now c.in_ok-desc.desc c.in_ok-t.ensures named value

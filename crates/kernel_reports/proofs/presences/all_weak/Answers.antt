use Rattle.std.proofs.Common.{◌≡◌, ◌∷◌, ap, ◌∙◌, rules}
use Rattle.object_externs.specs.Names.{by_bytes}
use Rattle.object_externs.proofs.ByBytes.{inserted}
use Rattle.kernel_reports.proofs.Growing.{none_entered, one_more}
use Rattle.kernel_reports.proofs.presences.all_weak.Goals as goal

pub loop-name-init : goal.loop-name-init
loop-name-init c = none_entered c.args.externs.now.by_name _ _ (search rules) (search rules)

pub loop-name-preserved : goal.loop-name-preserved
loop-name-preserved c =
    let next : by_bytes c.loop-name.name-iterator ≡ (c.in-Some.name.now.now, c.in-Some.desc.now) ∷ by_bytes c.next.new.self = search rules in
    one_more c.args.externs.now.by_name _ _ _ _ c.in-Some.name.now.now c.in-Some.desc.now c.in_ok-weak.weak c.iter-name-items.ensures.rising next c.loop-name.invariant c.in_ok-weak.ensures (ap by_bytes c.in_ok-insert.ensures.entries ∙ inserted c.loop-name.by_name.entries c.in-Some.name.now c.in_ok-weak.weak)

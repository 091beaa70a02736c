use Rattle.std.proofs.Common.{◌≡◌, ◌∷◌, [], refl, ap, ◌∙◌, rules}
use Rattle.extern_resolution.specs.Steps.{EntryAddressed, NoAddress}
use Rattle.object_externs.specs.Names.{by_bytes}
use Rattle.object_externs.proofs.ByBytes.{inserted}
use Rattle.extern_resolution.proofs.Each.{none_at_all, none_more, passed_here}
use Rattle.extern_resolution.proofs.Growing.{grows_by}
use Rattle.extern_resolution.proofs.addressed.addressed_externs.Goals as goal

pub returns-in_err-desc-clause-refused : goal.returns-in_err-desc-clause-refused
returns-in_err-desc-clause-refused c =
    let next : by_bytes c.loop-name.name-iterator ≡ (c.in-Some.name.now.now, c.in-Some.desc.now) ∷ by_bytes c.next.new.self = search rules in
    passed_here (NoAddress c.args.addresses.now) c.from_residual.result c.args.externs.now.by_name _ _ _ c.in_err-desc.field-0.0 next c.loop-name.invariant.1 c.from_residual.ensures.1 c.in_err-desc.ensures.refused

pub loop-name-preserved : goal.loop-name-preserved
loop-name-preserved c =
    let next : by_bytes c.loop-name.name-iterator ≡ (c.in-Some.name.now.now, c.in-Some.desc.now) ∷ by_bytes c.next.new.self = search rules in (
      grows_by (EntryAddressed c.args.addresses.now) (λ p q r. r.0) c.args.externs.now.by_name _ _ _ _ c.in-Some.name.now.now c.in-Some.desc.now c.in_ok-desc.desc c.iter-name-items.ensures.rising next c.loop-name.invariant.0 (refl, c.in_ok-desc.ensures.value) (ap by_bytes c.in_ok-insert.ensures.entries ∙ inserted c.loop-name.by_name.entries c.in-Some.name.now c.in_ok-desc.desc),
      none_more (NoAddress c.args.addresses.now) c.args.externs.now.by_name _ _ _ next c.loop-name.invariant.1 c.in_ok-desc.ensures.accepted,
    )

pub returns-clause-accepted : goal.returns-clause-accepted
returns-clause-accepted c =
    let none : by_bytes c.loop-name.name-iterator ≡ [] = search rules in
    none_at_all (NoAddress c.args.addresses.now) c.args.externs.now.by_name _ none c.loop-name.invariant.1

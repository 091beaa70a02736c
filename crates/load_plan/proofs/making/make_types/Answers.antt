use Rattle.std.proofs.Common.{sym, subst}
use Rattle.std.proofs.lemmas.Result.{err_from_is_err_and}
use Rattle.load_plan.specs.Made.{AreTypesRefused}
use Rattle.load_plan.specs.declared.order.Order.{Order}
use Rattle.load_plan.proofs.Chain.{relocated_first}
use Rattle.load_plan.proofs.making.make_types.Goals as goal

pub returns-in_err-relocate_types-in-RelocateFirst-clause-refused : goal.returns-in_err-relocate_types-in-RelocateFirst-clause-refused
returns-in_err-relocate_types-in-RelocateFirst-clause-refused g c =
    let p = err_from_is_err_and c.from_residual.result c.from_residual.ensures.1 in
    rw (p.1, p.2)
    (λ other.
    subst (λ (order : Order). AreTypesRefused g.F.FnMut c.args.predicate c.args.kernel_types.now order c.args.object.now c.in_err-relocate_types-in-RelocateFirst.field-0.0) (sym c.in-RelocateFirst.is)
    (relocated_first g.F.FnMut c.args.predicate c.args.kernel_types.now c.args.object.now c.in_err-relocate_types-in-RelocateFirst.field-0.0 (c.in_err-relocate_types-in-RelocateFirst.ensures.refused other)))

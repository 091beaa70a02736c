use Rattle.std.proofs.lemmas.Result.{err_from_is_err_and}
use Rattle.object_maps.proofs.Refusals.{inner_refused}
use Rattle.object_maps.proofs.definitions.Definitions.enter_member.Goals as goal

pub returns-in_err-inner-clause-refused : goal.returns-in_err-inner-clause-refused
returns-in_err-inner-clause-refused c =
    let p = err_from_is_err_and c.from_residual-in_err-inner.result c.from_residual-in_err-inner.ensures.1 in
    rw (p.1, p.2) (inner_refused c.args.self.now _ _ c.args.member c.in_ok-said.said c.in-Inner.id _ c.in_err-inner.ensures.refused c.in_ok-said.ensures c.in-Inner.is (cc) (cc))

use Rattle.std.proofs.lemmas.Result.{err_from_is_err_and}
use Rattle.object_maps.proofs.Refusals.{member_refused}
use Rattle.object_maps.proofs.definitions.Definitions.read.Goals as goal

pub returns-in_err-enter_member-clause-refused : goal.returns-in_err-enter_member-clause-refused
returns-in_err-enter_member-clause-refused c =
    let p = err_from_is_err_and c.from_residual.result c.from_residual.ensures.1 in
    rw (p.1, p.2) (member_refused c.args.self.now _ c.in-Some.member _ _ _ _ c.in_err-enter_member.ensures.refused c.loop-member.invariant.table c.in-Some.ensures.steps c.loop-member.invariant.errors)

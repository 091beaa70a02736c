use Rattle.std.proofs.Common.{◌≤◌, ℕ, List, length, arith, sym, subst}
use Rattle.std.proofs.lemmas.Bool.{ltb-false}
use Rattle.plan_registers.specs.Work.{IsUnderway, state_of}
use Rattle.plan_registers.proofs.Settling.{underway_listed, underway_past}
use Rattle.plan_registers.proofs.work.follow_index.Goals as goal

pub follow_each-requires-in-Some : goal.follow_each-requires-in-Some
follow_each-requires-in-Some c =
    let past : length c.args.program.now.slots ≤ c.args.index = omega (arith, c.if-index-len.false, c.len.ensures) in
    subst (λ (ns : List ℕ). IsUnderway c.args.program.now (state_of c.args.work.now) ns) (sym c.deref.ensures.value)
    (underway_listed c.args.program.now (state_of c.args.work.now) c.args.calls.now c.args.index c.in-Some.positions.now _ past (omega (arith, c.len-2.ensures)) c.in-Some.ensures.lookup.3.0 c.in-Some.ensures.lookup.1 c.requires)

pub returns-in-None-clause-underway : goal.returns-in-None-clause-underway
returns-in-None-clause-underway c =
    let past : length c.args.program.now.slots ≤ c.args.index = omega (arith, c.if-index-len.false, c.len.ensures) in
    underway_past c.args.program.now (state_of c.args.work.now) c.args.calls.now c.args.index _ past (omega (arith, c.len-2.ensures)) (ltb-false _ _ (sym c.in-None.ensures.lookup.0)) c.requires

use Rattle.std.proofs.Common.{arith, sym, ◌∙◌}
use Rattle.std.proofs.lemmas.Int.{ints}
use Rattle.std.proofs.lemmas.Result.{on_ok_weaker}
use Rattle.plan_registers.specs.Work.{state_of}
use Rattle.plan_registers.proofs.Following.{join_stops, join_along}
use Rattle.plan_registers.proofs.work.follow_along.Goals as goal

pub returns-then-stops : goal.returns-then-stops
returns-then-stops c = join_stops (state_of c.args.work.now) c.args.program.now c.args.slot c.args.position c.args.known c.args.taken (sym c.stops.ensures ∙ c.if-stops.true)

pub returns : goal.returns
returns c =
    on_ok_weaker c.go.result
    (λ j. join_along (state_of c.args.work.now) (state_of c.go.new.work) c.args.program.now c.args.slot c.args.position c.args.known c.args.taken _ (sym c.stops.ensures ∙ c.if-stops.false) (omega (arith, ints, c.distance.ensures)) j)
    c.go.ensures

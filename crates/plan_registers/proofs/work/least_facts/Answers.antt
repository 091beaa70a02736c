use Rattle.std.proofs.Common.{ap, ◌∙◌}
use Rattle.plan_registers.specs.Work.{first_state, state_of}
use Rattle.plan_registers.proofs.Settling.{underway_first}
use Rattle.plan_registers.proofs.work.least_facts.Goals as goal

pub settle-requires-clause-underway : goal.settle-requires-clause-underway
settle-requires-clause-underway c = underway_first c.args.program.now (state_of c.in_ok-work.work) (state_of c.join_globals.new.work) (c.in_ok-work.ensures ∙ ap first_state c.len.ensures) c.in_ok-join_globals.ensures

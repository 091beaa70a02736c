use Rattle.std.proofs.Common.{sym, ◌∙◌}
use Rattle.plan_registers.specs.Work.{state_of}
use Rattle.plan_registers.proofs.Following.{join_leave_none, join_within_at}
use Rattle.plan_registers.proofs.work.leave.Goals as goal

pub returns-in_default : goal.returns-in_default
returns-in_default c = join_leave_none (state_of c.args.work.now) c.args.program.now c.args.position c.args.to c.in_default.is

pub returns-then-function_of : goal.returns-then-function_of
returns-then-function_of c = join_within_at (state_of c.args.work.now) c.args.program.now c.args.position c.in-Some.slot c.args.to c.in-Some.is (sym c.function_of.ensures ∙ (c.if-function_of.true ∙ c.function_of-2.ensures))

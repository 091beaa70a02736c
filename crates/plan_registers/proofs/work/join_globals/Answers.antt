use Rattle.std.proofs.Common.{◌∙◌, ap, sym}
use Rattle.plan_values.specs.Programs.{Code}
use Rattle.plan_registers.specs.Work.{state_of}
use Rattle.plan_registers.proofs.Settling.{join_no_roots}
use Rattle.plan_registers.proofs.work.join_globals.Goals as goal

pub returns-then-program : goal.returns-then-program
returns-then-program c = join_no_roots c.args.program.now (state_of c.args.work.now) (ap (λ (code : Code). code.verifier.called_globals) (sym c.program.view_is) ∙ c.if-program.true)

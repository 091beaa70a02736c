use Rattle.plan_registers.proofs.Running.{visits_reached}
use Rattle.plan_registers.proofs.visits_reached.Goals as goal

pub returns : goal.returns
returns c = visits_reached

use Rattle.plan_laws.proofs.Short.{short}
use Rattle.plan_laws.proofs.lengths.plan_programs_are_short.Goals as goal

pub returns : goal.returns
returns c = record { each = short c.lengths_add.ensures c.programs_are_short.ensures }

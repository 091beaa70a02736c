use Rattle.plan_laws.proofs.Described.{programs_are_described}
use Rattle.plan_laws.proofs.programs.plan_programs_are_described.Goals as goal

pub returns : goal.returns
returns c = programs_are_described

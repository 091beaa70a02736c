use Rattle.plan_laws.proofs.Determining.{determined}
use Rattle.plan_laws.proofs.determined.plans_are_determined.Goals as goal

pub returns : goal.returns
returns c = determined c.layout_is_unique.ensures

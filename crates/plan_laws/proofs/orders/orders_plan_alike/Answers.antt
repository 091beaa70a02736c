use Rattle.plan_laws.proofs.Alike.{planned-alike}
use Rattle.plan_laws.proofs.orders.orders_plan_alike.Goals as goal

pub returns : goal.returns
returns c = planned-alike c.layout_is_unique.ensures c.orders_agree.ensures

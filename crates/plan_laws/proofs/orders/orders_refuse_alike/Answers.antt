use Rattle.plan_laws.proofs.Alike.{refused-alike}
use Rattle.plan_laws.proofs.orders.orders_refuse_alike.Goals as goal

pub returns : goal.returns
returns c = refused-alike c.layout_is_unique.ensures c.orders_agree.ensures

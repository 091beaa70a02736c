use Rattle.load_plan.proofs.Exchange.{orders_agree}
use Rattle.load_plan.proofs.laws.orders_agree.Goals as goal

pub returns : goal.returns
returns c = orders_agree c.relocations_rest.ensures

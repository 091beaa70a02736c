use Rattle.plan_laws.proofs.Determining.{excluded}
use Rattle.plan_laws.proofs.determined.plans_exclude_refusals.Goals as goal

pub returns : goal.returns
returns c = excluded c.layout_is_unique.ensures

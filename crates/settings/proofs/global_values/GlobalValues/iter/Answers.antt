use Rattle.settings.proofs.ValuesByBytes.{by_bytes-rising}
use Rattle.settings.proofs.global_values.GlobalValues.iter.Goals as goal

pub returns-clause-rising : goal.returns-clause-rising
returns-clause-rising c = rw (← c.self.view_is) (by_bytes-rising c.self.inside.values.entries c.iter.ensures.ordered)

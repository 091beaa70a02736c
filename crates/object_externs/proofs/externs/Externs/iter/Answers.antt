use Rattle.object_externs.proofs.ByBytes.{rising_bytes}
use Rattle.object_externs.proofs.externs.Externs.iter.Goals as goal

pub returns-clause-rising : goal.returns-clause-rising
returns-clause-rising c = rw (← c.self.view_is) (rising_bytes c.self.inside.by_name.entries c.iter.ensures.ordered)

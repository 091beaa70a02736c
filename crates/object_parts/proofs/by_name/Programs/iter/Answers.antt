use Rattle.object_parts.proofs.ByBytes.{rising_bytes}
use Rattle.object_parts.proofs.by_name.Programs.iter.Goals as goal

pub returns-clause-rising : goal.returns-clause-rising
returns-clause-rising c = rw (← c.self.view_is) (rising_bytes c.self.inside.entries.entries c.iter.ensures.ordered)

use Rattle.object_maps.proofs.Views.{shown_rising}
use Rattle.object_maps.proofs.maps.Maps.iter.Goals as goal

pub returns-clause-rising : goal.returns-clause-rising
returns-clause-rising c = rw (← c.self.view_is) (shown_rising c.self.inside.by_name.entries c.iter.ensures.ordered)

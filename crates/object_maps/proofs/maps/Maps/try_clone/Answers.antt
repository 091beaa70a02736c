use Rattle.object_maps.proofs.Views.{same_shown}
use Rattle.object_maps.proofs.maps.Maps.try_clone.Goals as goal

pub returns : goal.returns
returns c = rw (← c.self.view_is) (same_shown c.self.inside.by_name.entries _ c.in_ok-clone.ensures.cases)

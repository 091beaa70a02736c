use Rattle.std.proofs.Common.{ap, ◌∙◌}
use Rattle.object_maps.specs.Maps.{shown}
use Rattle.object_maps.proofs.Views.{shown_inserted}
use Rattle.object_maps.proofs.maps.Maps.insert.Goals as goal

pub returns-clause-ok : goal.returns-clause-ok
returns-clause-ok c = rw (← c.self.view_is) (ap shown c.in_ok-insert.ensures.entries ∙ shown_inserted c.self.inside.by_name.entries c.args.name c.args.map)

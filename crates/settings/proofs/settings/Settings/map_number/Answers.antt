use Rattle.std.proofs.Common.{◌∙◌}
use Rattle.settings.proofs.ByBytes.{by_bytes-lookup}
use Rattle.settings.proofs.settings.Settings.map_number.Goals as goal

pub returns-clause-value : goal.returns-clause-value
returns-clause-value c = rw (← c.self.view_is) (c.copied.ensures ∙ (c.get.ensures.value ∙ by_bytes-lookup c.args.name.now c.self.inside.maps.entries))

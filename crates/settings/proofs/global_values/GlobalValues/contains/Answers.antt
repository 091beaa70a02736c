use Rattle.std.proofs.Common.{ap, is_some, ◌∙◌}
use Rattle.settings.proofs.ValuesByBytes.{by_bytes-lookup}
use Rattle.settings.proofs.global_values.GlobalValues.contains.Goals as goal

pub returns : goal.returns
returns c = rw (← c.self.view_is) (c.contains_key.ensures ∙ ap is_some (by_bytes-lookup c.args.name.now c.self.inside.values.entries))

use Rattle.std.proofs.Common.{◌∙◌}
use Rattle.kernel_symbols.proofs.WantedValues.{found}
use Rattle.kernel_symbols.proofs.wanted_names.WantedByName.get.Goals as goal

pub returns : goal.returns
returns c = rw (← c.self.view_is) (c.copied.ensures ∙ c.get.ensures.value ∙ found c.args.name.now c.self.inside.by_name.entries)

use Rattle.std.proofs.Common.{◌∙◌}
use Rattle.object_parts.proofs.ByBytes.{found}
use Rattle.object_parts.proofs.by_name.Programs.get.Goals as goal

pub returns : goal.returns
returns c = rw (← c.self.view_is) (c.get.ensures.value ∙ found c.args.name.now c.self.inside.entries.entries)

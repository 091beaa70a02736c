use Rattle.std.proofs.Common.{ap, ◌∙◌}
use Rattle.object_parts.specs.Names.{by_bytes}
use Rattle.object_parts.proofs.ByBytes.{inserted}
use Rattle.object_parts.proofs.by_name.Programs.insert.Goals as goal

pub returns-clause-ok : goal.returns-clause-ok
returns-clause-ok c = rw (← c.self.view_is) (ap by_bytes c.in_ok-insert.ensures.entries ∙ inserted c.self.inside.entries.entries c.args.name c.args.program)

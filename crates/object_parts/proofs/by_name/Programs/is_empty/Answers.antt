use Rattle.object_parts.proofs.ByBytes.{none_of}
use Rattle.object_parts.proofs.by_name.Programs.is_empty.Goals as goal

pub returns : goal.returns
returns c = rw (← c.self.view_is) (none_of c.self.inside.entries.entries c.is_empty.result c.is_empty.ensures)

use Rattle.object_externs.proofs.ByBytes.{none_of}
use Rattle.object_externs.proofs.externs.Externs.is_empty.Goals as goal

pub returns : goal.returns
returns c = rw (← c.self.view_is) (none_of c.self.inside.by_name.entries c.is_empty.result c.is_empty.ensures)

use Rattle.slot_relocation.proofs.AfterAll.{lengths_remain}
use Rattle.slot_relocation.proofs.laws.lengths_remain.Goals as goal

pub returns : goal.returns
returns g c = lengths_remain g.row.A.Denot g.row.E.Denot

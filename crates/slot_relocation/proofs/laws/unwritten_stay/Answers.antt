use Rattle.slot_relocation.proofs.AfterAll.{unwritten_stay}
use Rattle.slot_relocation.proofs.laws.unwritten_stay.Goals as goal

pub returns : goal.returns
returns g c = unwritten_stay g.row.A.Denot g.row.E.Denot

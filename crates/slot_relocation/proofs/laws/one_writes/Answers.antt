use Rattle.slot_relocation.proofs.AfterAll.{one_writes}
use Rattle.slot_relocation.proofs.laws.one_writes.Goals as goal

pub returns : goal.returns
returns g c = one_writes g.row.A.Denot g.row.E.Denot

use Rattle.std.proofs.Common.{arith}
use Rattle.btf_storage.proofs.Reading.{has_room}
use Rattle.btf_storage.proofs.records.TypeRecords.len.Goals as goal

pub returns-clause-room : goal.returns-clause-room
returns-clause-room c =
    let s = c.self.inside in
    omega (arith, c.len.ensures, has_room s.order s.bytes s.places.items s.fallbacks.entries c.self.invariant)

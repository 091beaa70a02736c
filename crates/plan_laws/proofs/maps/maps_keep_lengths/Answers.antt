use Rattle.plan_laws.proofs.Mapped.{maps_keep_lengths}
use Rattle.plan_laws.proofs.maps.maps_keep_lengths.Goals as goal

pub returns : goal.returns
returns c = maps_keep_lengths c.values_leave_bytes.ensures

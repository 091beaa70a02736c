use Rattle.global_data.proofs.Kept.{values_leave_bytes}
use Rattle.global_data.proofs.laws.values_leave_bytes.Goals as goal

pub returns : goal.returns
returns c = values_leave_bytes

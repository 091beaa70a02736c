use Rattle.slot_relocation.proofs.Written.{writes_are_kept}
use Rattle.slot_relocation.proofs.laws.writes_are_kept.Goals as goal

pub returns : goal.returns
returns c = writes_are_kept

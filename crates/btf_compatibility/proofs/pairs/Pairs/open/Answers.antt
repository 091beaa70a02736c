use Rattle.btf_compatibility.proofs.States.{sets_state}
use Rattle.btf_compatibility.proofs.pairs.Pairs.open.Goals as goal

pub returns-clause-state : goal.returns-clause-state
returns-clause-state c = sets_state _ _ _ _ _ c.in_ok-insert.ensures.updates.0

use Rattle.watched.specs.Watched.{Sends-then}
use Rattle.plan_text.proofs.writing.send_types_line.Goals as goal

pub returns : goal.returns
returns g c =
    Sends-then _ _ _ _ _ _ c.send.ensures
    (Sends-then _ _ _ _ _ _ (rw c.type_bytes.ensures.value at c.send_types.ensures) c.send-2.ensures)

use Rattle.watched.specs.Watched.{Sends-then}
use Rattle.plan_text.proofs.writing.send_first_lines.Goals as goal

pub returns : goal.returns
returns g c =
    Sends-then _ _ _ _ _ _ c.send.ensures
    (Sends-then _ _ _ _ _ _ (rw c.license.ensures.value at c.send_bytes.ensures)
    (Sends-then _ _ _ _ _ _ c.send-2.ensures
    (Sends-then _ _ _ _ _ _ (rw c.version.ensures.value at c.send_version.ensures) c.send-3.ensures)))

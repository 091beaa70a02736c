use Rattle.watched.specs.Watched.{Sends-then}
use Rattle.plan_text.proofs.program_lines.send_slots_line.Goals as goal

pub returns : goal.returns
returns g c =
    Sends-then _ _ _ _ _ _ c.send.ensures
    (Sends-then _ _ _ _ _ _ c.send_slots.ensures c.send-2.ensures)

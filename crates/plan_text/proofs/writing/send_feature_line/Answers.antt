use Rattle.watched.specs.Watched.{Sends-then}
use Rattle.plan_text.proofs.writing.send_feature_line.Goals as goal

pub returns : goal.returns
returns g c =
    Sends-then _ _ _ _ _ _ c.send.ensures
    (Sends-then _ _ _ _ _ _ (rw c.feature_word.ensures at c.send-2.ensures)
    (Sends-then _ _ _ _ _ _ c.send-3.ensures
    (Sends-then _ _ _ _ _ _ (rw c.answer_word.ensures at c.send-4.ensures) c.send-5.ensures)))

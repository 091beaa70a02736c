use Rattle.watched.specs.Watched.{Sends-then}
use Rattle.plan_lines.proofs.word_writing.send_number.Goals as goal

pub returns : goal.returns
returns g c = Sends-then _ _ _ _ _ _ c.send.ensures c.send_decimal.ensures

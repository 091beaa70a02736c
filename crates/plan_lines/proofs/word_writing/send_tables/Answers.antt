use Rattle.std.proofs.Common.{arith}
use Rattle.plan_lines.proofs.Written.{table_words-some}
use Rattle.plan_lines.proofs.word_writing.send_tables.Goals as goal

pub returns-in-Some-2 : goal.returns-in-Some-2
returns-in-Some-2 g c = rw (c.in-Some-2.is, table_words-some c.in-Some-2.places.now (grind arith)) c.send_places.ensures

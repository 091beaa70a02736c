use Rattle.std.proofs.Common.{arith}
use Rattle.plan_lines.proofs.Written.{hex_word-slots}
use Rattle.plan_lines.proofs.word_writing.send_slots.Goals as goal

pub returns-else-len-eq0 : goal.returns-else-len-eq0
returns-else-len-eq0 g c = rw (hex_word-slots c.args.slots.now (grind arith)) c.send_slot_digits.ensures

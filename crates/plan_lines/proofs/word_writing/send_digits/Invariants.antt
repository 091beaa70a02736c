use Rattle.std.proofs.Common.{take}
use Rattle.hex.specs.Hex.{encode_lower}
use Rattle.watched.specs.Watched.{Sends}
use Rattle.plan_lines.proofs.word_writing.send_digits.Given as goal

abbrev pub invariant-loop-byte : goal.invariant-loop-byte
invariant-loop-byte g l = Sends g.W.Write.contents l.fn.out l.out (encode_lower (take l.byte-index l.bytes))

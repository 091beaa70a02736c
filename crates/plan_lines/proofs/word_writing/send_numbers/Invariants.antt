use Rattle.std.proofs.Common.{[], map, take}
use Rattle.std.specs.Fmt.{decimal}
use Rattle.watched.specs.Watched.{Sends}
use Rattle.plan_lines.specs.Words.{words_onto}
use Rattle.plan_lines.proofs.word_writing.send_numbers.Given as goal

abbrev pub invariant-loop-number : goal.invariant-loop-number
invariant-loop-number g l = Sends g.W.Write.contents l.fn.out l.out (words_onto (map decimal (take l.number-index l.numbers)) [])

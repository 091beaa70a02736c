use Rattle.std.proofs.Common.{[], map, take}
use Rattle.std.specs.Fmt.{decimal}
use Rattle.watched.specs.Watched.{Sends}
use Rattle.plan_lines.specs.Words.{words_onto}
use Rattle.plan_lines.proofs.word_writing.send_places.Given as goal

abbrev pub invariant-loop-place : goal.invariant-loop-place
invariant-loop-place g l = Sends g.W.Write.contents l.fn.out l.out (words_onto (map decimal (take l.place-index l.places)) [])

use Rattle.std.proofs.Common.{map, take}
use Rattle.watched.specs.Watched.{Sends}
use Rattle.plan_text.specs.PlanGrammar.{feature_line}
use Rattle.plan_lines.specs.Words.{text_of_lines}
use Rattle.plan_text.proofs.writing.send_feature_lines.Given as goal

abbrev pub invariant-loop-answer : goal.invariant-loop-answer
invariant-loop-answer g l = Sends g.W.Write.contents l.fn.out l.out (text_of_lines (map feature_line (take l.answer-index l.answers)))

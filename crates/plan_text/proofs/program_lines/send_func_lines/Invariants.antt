use Rattle.std.proofs.Common.{◌-◌, length, map, take}
use Rattle.watched.specs.Watched.{Sends}
use Rattle.plan_text.specs.PlanGrammar.{func_line}
use Rattle.plan_lines.specs.Words.{text_of_lines}
use Rattle.plan_text.proofs.program_lines.send_func_lines.Given as goal

abbrev pub invariant-loop-info : goal.invariant-loop-info
invariant-loop-info g l = Sends g.W.Write.contents l.fn.out l.out (text_of_lines (map func_line (take l.index l.records)))

abbrev pub decreases-loop-info : goal.decreases-loop-info
decreases-loop-info g l = length l.records - l.index

use Rattle.std.proofs.Common.{take}
use Rattle.std.specs.Prelude.{flat_map}
use Rattle.watched.specs.Watched.{Sends}
use Rattle.plan_lines.specs.declared.line.TextVersion.TheVariants.{Second}
use Rattle.plan_text.specs.PlanGrammar.{program_lines}
use Rattle.plan_lines.specs.Words.{text_of_lines}
use Rattle.plan_text.proofs.program_lines.send_programs.Given as goal

abbrev pub invariant-loop-program : goal.invariant-loop-program
invariant-loop-program g l = Sends g.W.Write.contents l.fn.out l.out (text_of_lines (flat_map (program_lines Second) (take l.program-index l.programs)))

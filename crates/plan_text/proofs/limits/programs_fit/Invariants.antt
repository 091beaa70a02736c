use Rattle.std.proofs.Common.{take}
use Rattle.std.specs.List.{All}
use Rattle.plan_text.specs.Content.{FitsProgram}
use Rattle.plan_text.proofs.limits.programs_fit.Given as goal

abbrev pub invariant-loop-program : goal.invariant-loop-program
invariant-loop-program l = All FitsProgram (take l.program-index l.programs)

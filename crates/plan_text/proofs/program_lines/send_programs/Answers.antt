use Rattle.std.proofs.Common.{◌<◌, length, arith}
use Rattle.watched.specs.Watched.{Sends-then}
use Rattle.plan_lines.specs.declared.line.TextVersion.TheVariants.{Second}
use Rattle.plan_text.specs.PlanGrammar.{program_lines}
use Rattle.plan_text.proofs.Texts.{each_lines-more}
use Rattle.plan_text.proofs.program_lines.send_programs.Goals as goal

pub loop-program-preserved : goal.loop-program-preserved
loop-program-preserved g c =
    let within : c.loop-program.program-index < length c.args.programs.now = omega arith in
    rw (each_lines-more (program_lines Second) c.args.programs.now c.loop-program.program-index c.program-item.result within, ← c.program-item.is)
    (Sends-then _ _ _ _ _ _ c.loop-program.invariant c.send_program.ensures)

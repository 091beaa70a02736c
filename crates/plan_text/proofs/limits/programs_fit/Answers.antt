use Rattle.std.proofs.Common.{◌<◌, ◌≤◌, length, arith, subst}
use Rattle.std.specs.List.{All}
use Rattle.std.proofs.lemmas.List.Elements.{All-more}
use Rattle.plan_text.proofs.Texts.{take-whole}
use Rattle.plan_text.specs.Content.{FitsProgram}
use Rattle.plan_text.proofs.limits.programs_fit.Goals as goal

pub loop-program-preserved : goal.loop-program-preserved
loop-program-preserved c =
    let within : c.loop-program.program-index < length c.args.programs.now = omega arith in
    All-more FitsProgram c.args.programs.now c.loop-program.program-index c.program-item.result within c.loop-program.invariant (subst FitsProgram c.program-item.is c.fits.ensures)

pub returns : goal.returns
returns c =
    let all : length c.args.programs.now ≤ c.loop-program.program-index = omega arith in
    subst (All FitsProgram) (take-whole c.args.programs.now c.loop-program.program-index all) c.loop-program.invariant

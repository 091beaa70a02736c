use Rattle.std.proofs.Common.{◌<◌, length, arith, sym, subst}
use Rattle.watched.specs.Watched.{Sends, Sends-then}
use Rattle.plan_text.specs.PlanGrammar.{feature_line}
use Rattle.plan_text.proofs.Texts.{each_line-more}
use Rattle.plan_text.proofs.writing.send_feature_lines.Goals as goal

pub loop-answer-preserved : goal.loop-answer-preserved
loop-answer-preserved g c =
    let within : c.loop-answer.answer-index < length c.args.answers.now = omega arith in
    subst (λ t. Sends g.W.Write.contents c.args.out.now c.send_feature_line.new.out t)
    (sym (each_line-more feature_line c.args.answers.now c.loop-answer.answer-index _ within))
    (Sends-then _ _ _ _ _ _ c.loop-answer.invariant c.send_feature_line.ensures)

use Rattle.std.proofs.Common.{map, sym, subst, ◌∙◌}
use Rattle.watched.specs.Watched.{Sends, Sends-then}
use Rattle.plan_text.specs.PlanGrammar.{func_line}
use Rattle.plan_lines.specs.Words.{text_of_lines}
use Rattle.plan_text.proofs.Texts.{each_line-next, take-all}
use Rattle.plan_text.proofs.program_lines.send_func_lines.Goals as goal

pub loop-info-preserved : goal.loop-info-preserved
loop-info-preserved g c =
    rw (each_line-next func_line c.args.records.now c.loop-info.index c.in-Some.info (sym c.get.ensures.value ∙ c.in-Some.is))
    (Sends-then _ _ _ _ _ _ c.loop-info.invariant c.send_func_line.ensures)

pub returns : goal.returns
returns g c =
    subst (λ sent. Sends g.W.Write.contents c.args.out.now c.loop-info.out (text_of_lines (map func_line sent)))
    (take-all c.args.records.now c.loop-info.index (sym c.get.ensures.value ∙ c.in_default.is)) c.loop-info.invariant

use Rattle.std.proofs.Common.{sym, subst}
use Rattle.watched.specs.Watched.{Sends, Sends-then}
use Rattle.plan_text.specs.PlanGrammar.{map_line, inner_lines}
use Rattle.plan_text.proofs.Texts.{text_of_lines-first}
use Rattle.plan_text.proofs.map_lines.send_map.Goals as goal

pub returns : goal.returns
returns g c =
    subst (λ t. Sends g.W.Write.contents c.args.out.now c.send_inner_lines.new.out t) (sym (text_of_lines-first (map_line c.args.map.now) (inner_lines c.args.map.now.inner)))
    (Sends-then _ _ _ _ _ _ c.send_map_line.ensures (rw c.inner.ensures at c.send_inner_lines.ensures))

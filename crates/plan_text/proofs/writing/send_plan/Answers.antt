use Rattle.std.proofs.Common.{sym, subst}
use Rattle.watched.specs.Watched.{Sends, Sends-then}
use Rattle.plan_text.proofs.Texts.{text_of-parts}
use Rattle.plan_text.proofs.writing.send_plan.Goals as goal

pub returns : goal.returns
returns g c =
    subst (λ t. Sends g.W.Write.contents c.args.out.now c.send.new.self t) (sym (text_of-parts c.args.plan.now))
    (Sends-then _ _ _ _ _ _ c.send_first_lines.ensures
    (Sends-then _ _ _ _ _ _ (rw c.features.ensures.value at c.send_feature_lines.ensures)
    (Sends-then _ _ _ _ _ _ c.send_types_line.ensures
    (Sends-then _ _ _ _ _ _ (rw c.maps.ensures.value at c.send_maps.ensures)
    (Sends-then _ _ _ _ _ _ (rw c.programs.ensures.value at c.send_programs.ensures) c.send.ensures)))))

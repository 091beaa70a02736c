use Rattle.std.proofs.Common.{sym, subst}
use Rattle.watched.specs.Watched.{Sends, Sends-then}
use Rattle.plan_text.proofs.Texts.{map_line-parts}
use Rattle.plan_text.proofs.map_lines.send_map_line.Goals as goal

pub returns : goal.returns
returns g c =
    subst (λ t. Sends g.W.Write.contents c.args.out.now c.send-5.new.self t) (sym (map_line-parts c.args.map.now))
    (Sends-then _ _ _ _ _ _ c.send.ensures
    (Sends-then _ _ _ _ _ _ (rw (c.as_bytes.ensures.value, c.name.ensures) at c.send_bytes.ensures)
    (Sends-then _ _ _ _ _ _ c.send-2.ensures
    (Sends-then _ _ _ _ _ _ (rw (c.from.ensures, c.number.ensures) at c.send_decimal.ensures)
    (Sends-then _ _ _ _ _ _ c.send-3.ensures
    (Sends-then _ _ _ _ _ _ (rw c.is_btf.ensures at c.send_form.ensures)
    (Sends-then _ _ _ _ _ _ (rw (c.numbers_of-numbers.ensures, c.words.ensures) at c.send_numbers.ensures)
    (Sends-then _ _ _ _ _ _ c.send-4.ensures
    (Sends-then _ _ _ _ _ _ (rw c.contents.ensures at c.send_bytes-2.ensures) c.send-5.ensures)))))))))

use Rattle.std.proofs.Common.{map, sym, subst}
use Rattle.std.specs.Prelude.{codes}
use Rattle.std.specs.Fmt.{decimal}
use Rattle.watched.specs.Watched.{Sends, Sends-then}
use Rattle.plan_lines.specs.Lines.{numbers_of}
use Rattle.plan_text.proofs.Texts.{line-parts}
use Rattle.plan_text.proofs.map_lines.send_inner_line.Goals as goal

pub returns : goal.returns
returns g c =
    subst (λ t. Sends g.W.Write.contents c.args.out.now c.send-2.new.self t) (sym (line-parts (codes "inner") (map decimal (numbers_of c.args.words))))
    (Sends-then _ _ _ _ _ _ c.send.ensures (Sends-then _ _ _ _ _ _ (rw c.numbers_of-numbers.ensures at c.send_numbers.ensures) c.send-2.ensures))

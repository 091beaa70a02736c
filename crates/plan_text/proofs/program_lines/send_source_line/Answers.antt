use Rattle.std.proofs.Common.{◌∷◌, [], sym, subst}
use Rattle.std.specs.Prelude.{codes}
use Rattle.std.specs.Fmt.{decimal}
use Rattle.watched.specs.Watched.{Sends, Sends-then}
use Rattle.plan_text.proofs.Texts.{line-parts}
use Rattle.plan_text.proofs.program_lines.send_source_line.Goals as goal

pub returns : goal.returns
returns g c =
    subst (λ t. Sends g.W.Write.contents c.args.out.now c.send-2.new.self t) (sym (line-parts (codes "line") (decimal c.args.info.insn_off ∷ decimal c.args.info.file_name_off ∷ decimal c.args.info.line_off ∷ decimal c.args.info.line_col ∷ [])))
    (Sends-then _ _ _ _ _ _ c.send.ensures (Sends-then _ _ _ _ _ _ (rw (c.from.ensures, c.from-2.ensures, c.from-3.ensures, c.from-4.ensures) at c.send_numbers.ensures) c.send-2.ensures))

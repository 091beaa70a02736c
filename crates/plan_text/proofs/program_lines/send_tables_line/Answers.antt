use Rattle.std.proofs.Common.{sym, subst}
use Rattle.std.specs.Option.{option_map}
use Rattle.std.specs.Prelude.{codes}
use Rattle.watched.specs.Watched.{Sends, Sends-then}
use Rattle.plan_lines.specs.Lines.{table_words}
use Rattle.plan_text.proofs.Texts.{line-parts}
use Rattle.plan_text.proofs.program_lines.send_tables_line.Goals as goal

pub returns : goal.returns
returns g c =
    subst (λ t. Sends g.W.Write.contents c.args.out.now c.send-2.new.self t) (sym (line-parts (codes "tables") (table_words (option_map (λ places. places.now) c.args.tables))))
    (Sends-then _ _ _ _ _ _ c.send.ensures (Sends-then _ _ _ _ _ _ c.send_tables.ensures c.send-2.ensures))

use Rattle.std.proofs.Common.{sym, subst}
use Rattle.watched.specs.Watched.{Sends, Sends-then}
use Rattle.plan_text.proofs.Texts.{program_lines-parts}
use Rattle.plan_text.proofs.program_lines.send_program.Goals as goal

pub returns : goal.returns
returns g c =
    subst (λ t. Sends g.W.Write.contents c.args.out.now c.send_source_lines.new.out t) (sym (program_lines-parts c.args.program.now))
    (Sends-then _ _ _ _ _ _ (rw (c.name.ensures, c.kind_numbers.ensures, c.section.ensures) at c.send_program_line.ensures)
    (Sends-then _ _ _ _ _ _ (rw c.slots.ensures at c.send_slots_line.ensures)
    (Sends-then _ _ _ _ _ _ (rw c.tables.ensures at c.send_tables_line.ensures)
    (Sends-then _ _ _ _ _ _ (rw c.func_records.ensures at c.send_func_lines.ensures) (rw c.line_records.ensures at c.send_source_lines.ensures)))))

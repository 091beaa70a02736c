use Rattle.plan_lines.proofs.ReadLaws.{told_apart}
use Rattle.plan_lines.proofs.line_reading.lines_are_told_apart.Goals as goal

pub returns : goal.returns
returns c = record { same = told_apart }

use Rattle.plan_lines.proofs.LineLaws.{line_unbroken}
use Rattle.plan_lines.proofs.line_reading.lines_are_unbroken.Goals as goal

pub returns : goal.returns
returns c = record { each = line_unbroken }

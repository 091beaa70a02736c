use Rattle.plan_lines.proofs.ReadLaws.{is_read}
use Rattle.plan_lines.proofs.line_reading.read_line.Goals as goal

pub returns : goal.returns
returns c = is_read c.args.bytes.now _ c.line.ensures

use Rattle.plan_text.proofs.ReadingLaws.{took}
use Rattle.plan_text.proofs.reading.Reader.take.Goals as goal

pub returns-in-Ok : goal.returns-in-Ok
returns-in-Ok c = took _ _ c.args.bytes.now c.in-Ok.line _ c.in-Ok.ensures c.step.ensures

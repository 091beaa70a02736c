use Rattle.linker.proofs.Gets.{copied, copied_all}
use Rattle.linker.proofs.records.push_lines.Goals as goal

pub loop-record-preserved : goal.loop-record-preserved
loop-record-preserved c = copied c.args.records.now c.loop-record.index c.in-Some.record _ _ _ c.in-Some.ensures.value c.in_ok-push.ensures.items c.loop-record.invariant

pub returns : goal.returns
returns c = copied_all c.args.records.now c.loop-record.index _ _ c.in_default.ensures.value c.loop-record.invariant

use Rattle.std.proofs.Common.{refl}
use Rattle.linker.specs.Records.{moved_function}
use Rattle.linker.proofs.Gets.{pushed, pushed_all}
use Rattle.linker.proofs.records.push_functions.Goals as goal

pub loop-record-preserved : goal.loop-record-preserved
loop-record-preserved c = pushed (moved_function c.args.start) c.args.records.now c.loop-record.index c.in-Some.record _ _ _ _ c.in-Some.ensures.value refl c.in_ok-push.ensures.items c.loop-record.invariant

pub returns : goal.returns
returns c = pushed_all (moved_function c.args.start) c.args.records.now c.loop-record.index _ _ c.in_default.ensures.value c.loop-record.invariant

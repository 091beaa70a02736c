use Rattle.ebpf_items.proofs.Renamed.{map_step}
use Rattle.core_relocation.specs.Walks.{after_relocation}
use Rattle.core_relocation.proofs.Among.{took_more}
use Rattle.core_relocation.proofs.write.relocate_among.Goals as goal

pub loop-function-preserved : goal.loop-function-preserved
loop-function-preserved c = (
  rw c.in_ok-relocate_if_in.ensures.written (map_step (after_relocation c.args.placed) _ _ _ _ c.loop-function-test.true c.loop-function.invariant.0),
  took_more c.args.placed _ _ _ _ c.loop-function-test.true c.loop-function.invariant.0 c.loop-function.invariant.1 c.in_ok-relocate_if_in.ensures.fits,
)

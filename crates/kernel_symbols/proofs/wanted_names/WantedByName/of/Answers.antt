use Rattle.std.proofs.Common.{refl}
use Rattle.kernel_symbols.proofs.WantedLemmas.{wanted_more}
use Rattle.kernel_symbols.proofs.wanted_names.WantedByName.of.Goals as goal

pub loop-name-preserved : goal.loop-name-preserved
loop-name-preserved c = (c.in_ok-want.ensures.marked, wanted_more c.args.names.now c.loop-name.name-index _ _ _ _ c.loop-name-test.true refl c.in_ok-want.ensures.wanted c.loop-name.invariant.1.0 c.loop-name.invariant.1.1)

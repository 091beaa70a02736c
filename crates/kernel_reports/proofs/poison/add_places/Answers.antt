use Rattle.std.proofs.Common.{arith}
use Rattle.std.proofs.lemmas.Grind.{common_steps}
use Rattle.kernel_reports.proofs.Ranges.{left_from}
use Rattle.kernel_reports.proofs.poison.add_places.Goals as goal

pub loop-index-preserved : goal.loop-index-preserved
loop-index-preserved c =
    let left = left_from c.loop-index.index c.args.copy.len c.loop-index-test.true in
    grind (arith, common_steps, left)

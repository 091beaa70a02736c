use Rattle.std.proofs.Common.{arith}
use Rattle.std.proofs.lemmas.Grind.{common_steps}
use Rattle.std.proofs.lemmas.List.Folds.{list_any-append}
use Rattle.kernel_reports.proofs.reach.slots_with_poison.Goals as goal

pub loop-place-preserved : goal.loop-place-preserved
loop-place-preserved c = λ place. grind (arith, common_steps, list_any-append, c.loop-place.invariant place)

use Rattle.std.proofs.Common.{arith}
use Rattle.std.proofs.lemmas.Grind.{common_steps}
use Rattle.std.proofs.lemmas.List.Folds.{list_any-append}
use Rattle.kernel_reports.proofs.reach.reached_slots.Goals as goal

pub loop-found-preserved : goal.loop-found-preserved
loop-found-preserved c = λ place. grind (arith, common_steps, list_any-append, c.loop-found.invariant place)

use Rattle.std.proofs.Common.{◌≡◌, ◌++◌, drop}
use Rattle.std.specs.Prelude.{map}
use Rattle.report_needs.specs.Enums.{func_ids}
use Rattle.report_needs.specs.Needs.{helper_need}
use Rattle.report_needs.proofs.needs.helper_needs.Given as goal

abbrev pub invariant-loop-number : goal.invariant-loop-number
invariant-loop-number l = l.needs.items ++ map (helper_need l.kernel (func_ids l.kernel)) (drop l.number-index l.numbers) ≡ map (helper_need l.kernel (func_ids l.kernel)) l.numbers

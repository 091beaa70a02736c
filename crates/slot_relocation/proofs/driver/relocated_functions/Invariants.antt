use Rattle.std.proofs.Common.{◌≡◌, ◌++◌, List}
use Rattle.slot_relocation.specs.Walks.{AreWalked}
use Rattle.slot_relocation.proofs.Walk.{Entry}
use Rattle.slot_relocation.proofs.driver.relocated_functions.Given as goal

abbrev pub invariant-loop-function : goal.invariant-loop-function
invariant-loop-function g l = (done : List Entry) × ((done ++ l.function-iterator ≡ l.functions) × AreWalked (g.P.Rule.rule l.pass) (g.P.Pass.inside l.pass) done l.list.items l.first)

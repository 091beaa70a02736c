use Rattle.std.proofs.Common.{◌≡◌, ◌++◌, take, drop, map}
use Rattle.core_relocation.specs.Walks.{AllTake, after_relocation}
use Rattle.core_relocation.proofs.write.relocate_among.Given as goal

abbrev pub invariant-loop-function : goal.invariant-loop-function
invariant-loop-function l = (l.functions ≡ map (after_relocation l.placed) (take l.function-index l.initial.functions) ++ drop l.function-index l.initial.functions) × AllTake l.placed (take l.function-index l.initial.functions)

use Rattle.std.proofs.Common.{◌≡◌, [], ◌∷◌, ◌++◌}
use Rattle.core_match.specs.Looks.{searched}
use Rattle.core_match.specs.Searches.{member_found}
use Rattle.core_match.specs.Stacks.{IsSound, stack_value, work}
use Rattle.core_match.proofs.search.find_member.Given as goal

abbrev pub invariant-loop-memory : goal.invariant-loop-memory
invariant-loop-memory l = record {
  same : stack_value (searched l.local l.type_id l.name l.target) (l.memory.outer.items ++ l.frame ∷ []) ≡ member_found (searched l.local l.type_id l.name l.target) l.root l.fn.bits;
  sound : IsSound (searched l.local l.type_id l.name l.target) l.memory.nothing.keys l.memory.outer.items l.frame;
}

abbrev pub decreases-loop-memory : goal.decreases-loop-memory
decreases-loop-memory l = work l.target l.memory.nothing.keys l.memory.outer.items l.frame

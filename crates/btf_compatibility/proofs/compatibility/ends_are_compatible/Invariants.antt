use Rattle.btf_compatibility.specs.TypeCompatibility.{ends_compatible}
use Rattle.btf_compatibility.proofs.Steps.{steps_left}
use Rattle.btf_compatibility.proofs.Walks.{IsStack}
use Rattle.btf_compatibility.proofs.compatibility.ends_are_compatible.Given as goal

abbrev pub invariant-loop-pair : goal.invariant-loop-pair
invariant-loop-pair l =
    IsStack l.local l.target l.asked
    (ends_compatible l.local l.target l.asked (l.fn.local_id, l.fn.target_id)) l.pairs.open.items
    l.pairs.states.entries

abbrev pub decreases-loop-pair : goal.decreases-loop-pair
decreases-loop-pair l = steps_left l.local l.target l.pairs.states.entries l.pairs.open.items

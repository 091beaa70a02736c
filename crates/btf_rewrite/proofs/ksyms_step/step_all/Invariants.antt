use Rattle.std.proofs.Common.{◌≡◌, ◌-◌, length}
use Rattle.btf_rewrite.proofs.Stepping.{HaveStepped}
use Rattle.btf_rewrite.proofs.ksyms_step.step_all.Given as goal
use Rattle.btf_rewrite.specs.Steps.{ksyms_of}

abbrev pub invariant-loop-t : goal.invariant-loop-t
invariant-loop-t l = HaveStepped (ksyms_of l.k) l.records.order l.index l.records.types × (l.records.order ≡ l.fn.records.order)

abbrev pub decreases-loop-t : goal.decreases-loop-t
decreases-loop-t l = length (ksyms_of l.k).types - l.index

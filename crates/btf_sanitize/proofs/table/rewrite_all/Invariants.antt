use Rattle.std.proofs.Common.{◌≡◌, ◌-◌, length}
use Rattle.btf_sanitize.specs.Knowledge.{facts_of}
use Rattle.btf_sanitize.proofs.Passes.{HavePassed}
use Rattle.btf_sanitize.proofs.table.rewrite_all.Given as goal

abbrev pub invariant-loop-t : goal.invariant-loop-t
invariant-loop-t l = HavePassed (facts_of l.known) l.records.order l.fn.additions l.index l.additions l.records.types × (l.records.order ≡ l.fn.records.order)

abbrev pub decreases-loop-t : goal.decreases-loop-t
decreases-loop-t l = length (facts_of l.known).types - l.index

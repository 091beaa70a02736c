use Rattle.std.proofs.Common.{◌≡◌, ◌+◌, ◌-◌, ◌^◌, drop, length}
use Rattle.btf_sanitize.specs.Knowledge.{facts_of}
use Rattle.btf_sanitize.specs.OwnTexts.{own_texts}
use Rattle.btf_sanitize.proofs.own_texts.own_texts_fit.Given as goal

abbrev pub invariant-loop-t : goal.invariant-loop-t
invariant-loop-t l =
    length (facts_of l.known).strings + own_texts (facts_of l.known) (facts_of l.known).types + l.left + 1
    ≡ 2 ^ 32 + own_texts (facts_of l.known) (drop l.index (facts_of l.known).types)

abbrev pub decreases-loop-t : goal.decreases-loop-t
decreases-loop-t l = length (facts_of l.known).types - l.index

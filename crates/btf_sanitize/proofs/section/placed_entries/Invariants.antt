use Rattle.btf_sanitize.proofs.Elements.{AreMade}
use Rattle.btf_sanitize.specs.Faults.{PlaceFault}
use Rattle.btf_sanitize.specs.Knowledge.{facts_of}
use Rattle.btf_sanitize.specs.Rewritten.{placed}
use Rattle.btf_sanitize.proofs.section.placed_entries.Given as goal
use Rattle.btf_storage.specs.Faultless.{IsFaultless}

abbrev pub invariant-loop-entry : goal.invariant-loop-entry
invariant-loop-entry l = AreMade (placed (facts_of l.known)) (λ entry. IsFaultless (PlaceFault (facts_of l.known) entry)) l.entries l.entry-index l.placed_entries.items

use Rattle.btf_rewrite.specs.Steps.{ksyms_of}
use Rattle.btf_rewrite.proofs.PlacedEntries.{PlacedFirst}
use Rattle.btf_rewrite.proofs.ksyms_section.placed_entries.Given as goal

abbrev pub invariant-loop-index : goal.invariant-loop-index
invariant-loop-index l = PlacedFirst (ksyms_of l.k) l.entries l.index l.placed.items l.has_variables

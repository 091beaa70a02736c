use Rattle.std.proofs.Common.{◌≡◌, length}
use Rattle.btf_rewrite.proofs.Marks.{MarkFirst}
use Rattle.btf_rewrite.proofs.ksyms_section.marks.Given as goal

abbrev pub invariant-loop-entry : goal.invariant-loop-entry
invariant-loop-entry l = MarkFirst l.marks.items l.entries l.entry-index × (length l.marks.items ≡ l.count)

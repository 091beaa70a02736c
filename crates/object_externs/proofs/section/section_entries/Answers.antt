use Rattle.std.proofs.Common.{refl, sym, ◌∙◌}
use Rattle.btf_records.specs.Fields.{entries_of}
use Rattle.object_externs.proofs.Search.{taken_all, taken_more}
use Rattle.object_externs.proofs.section.section_entries.Goals as goal

pub loop-entry-preserved : goal.loop-entry-preserved
loop-entry-preserved c = c.in_ok-push.ensures.items ∙ taken_more (entries_of c.in_ok-t.t) c.loop-entry.entries.items c.loop-entry.index c.in-Some.entry (sym c.in-Some.ensures) c.loop-entry.invariant

pub returns-clause-value : goal.returns-clause-value
returns-clause-value c = taken_all (entries_of c.in_ok-t.t) c.loop-entry.entries.items c.loop-entry.index (sym c.in_default.ensures) c.loop-entry.invariant ∙ rw c.in_ok-t.ensures refl

use Rattle.std.proofs.Common.{◌≡◌, ℕ, ◌+◌, length}
use Rattle.object_externs.specs.Section.{has_unreadable, ksyms_from, ksyms_section}
use Rattle.object_externs.proofs.section.ksyms_section.Given as goal

abbrev pub invariant-loop-t : goal.invariant-loop-t
invariant-loop-t l = record {
  found : ksyms_from l.table.strings l.id l.t-iterator ≡ ksyms_section l.table;
  readable : (offset : ℕ) → has_unreadable l.table.strings offset l.t-iterator ≡ has_unreadable l.table.strings offset l.table.types;
  counted : l.id + length l.t-iterator ≡ length l.table.types + 1;
}

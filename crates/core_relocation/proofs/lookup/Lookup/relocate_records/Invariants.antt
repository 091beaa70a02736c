use Rattle.std.proofs.Common.{◌≡◌, Some}
use Rattle.core_relocation.proofs.Making.{AreRecordsMade}
use Rattle.core_relocation.proofs.lookup.Lookup.relocate_records.Given as goal

abbrev pub invariant-loop-number : goal.invariant-loop-number
invariant-loop-number l = (l.matcher ≡ l.fn.matcher) × AreRecordsMade l.self (Some l.section_index) l.records l.number l.fn.relocated.items l.relocated.items

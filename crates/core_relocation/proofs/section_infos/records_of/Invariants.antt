use Rattle.std.proofs.Common.{◌≡◌, take}
use Rattle.core_relocation.proofs.section_infos.records_of.Given as goal

abbrev pub invariant-loop-number : goal.invariant-loop-number
invariant-loop-number l = l.records.items ≡ take l.number l.section_info.records

use Rattle.std.proofs.Common.{◌≡◌, drop, find}
use Rattle.btf_records.specs.Fields.{variants_of}
use Rattle.report_needs.specs.Kinds.{is_kind_number}
use Rattle.report_needs.proofs.kinds.kind_number.Given as goal

abbrev pub invariant-loop-index : goal.invariant-loop-index
invariant-loop-index l = find (is_kind_number l.kernel l.number) (drop l.index (variants_of l.t)) ≡ find (is_kind_number l.kernel l.number) (variants_of l.t)

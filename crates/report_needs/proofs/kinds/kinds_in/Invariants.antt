use Rattle.std.proofs.Common.{◌≡◌, ◌++◌, drop, filter, map}
use Rattle.btf_records.specs.Fields.{kind_of_type}
use Rattle.btf_records.specs.Kinds.{all_kinds, number_of}
use Rattle.report_needs.specs.Kinds.{is_among, kinds_in}
use Rattle.report_needs.proofs.kinds.kinds_in.Given as goal

abbrev pub invariant-loop-number : goal.invariant-loop-number
invariant-loop-number l = l.kinds.items ++ filter (is_among (map (λ t. number_of (kind_of_type t)) l.table.types)) (drop l.number all_kinds) ≡ kinds_in l.table

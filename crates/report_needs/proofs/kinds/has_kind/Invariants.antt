use Rattle.std.proofs.Common.{◌≡◌, drop, map}
use Rattle.btf_records.specs.Fields.{kind_of_type}
use Rattle.btf_records.specs.Kinds.{number_of}
use Rattle.report_needs.specs.Kinds.{is_among}
use Rattle.report_needs.proofs.KindsOf.{is_of_kind}
use Rattle.std.specs.List.{list_any}
use Rattle.report_needs.proofs.kinds.has_kind.Given as goal

abbrev pub invariant-loop-index : goal.invariant-loop-index
invariant-loop-index l = list_any (is_of_kind l.kind) (drop l.index l.table.types) ≡ is_among (map (λ t. number_of (kind_of_type t)) l.table.types) l.kind

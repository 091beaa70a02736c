use Rattle.std.proofs.Common.{◌≡◌, drop, find}
use Rattle.btf_records.specs.Fields.{variants64_of}
use Rattle.btf_records.specs.Items.{value_of}
use Rattle.report_needs.specs.Enums.{has_number}
use Rattle.report_needs.proofs.enums.variant_64.Given as goal

abbrev pub invariant-loop-index : goal.invariant-loop-index
invariant-loop-index l =
    find (λ v. has_number l.kernel v.name_offset (value_of v) l.number) (drop l.index (variants64_of l.t))
    ≡ find (λ v. has_number l.kernel v.name_offset (value_of v) l.number) (variants64_of l.t)

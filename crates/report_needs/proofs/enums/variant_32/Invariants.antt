use Rattle.std.proofs.Common.{◌≡◌, drop, find}
use Rattle.btf_encoding.specs.Records.{bits_of}
use Rattle.btf_records.specs.Fields.{variants_of}
use Rattle.report_needs.specs.Enums.{has_number, widened}
use Rattle.report_needs.proofs.enums.variant_32.Given as goal

abbrev pub invariant-loop-index : goal.invariant-loop-index
invariant-loop-index l =
    find (λ v. has_number l.kernel v.name_offset (widened (bits_of l.t).flag v.value) l.number) (drop l.index (variants_of l.t))
    ≡ find (λ v. has_number l.kernel v.name_offset (widened (bits_of l.t).flag v.value) l.number) (variants_of l.t)

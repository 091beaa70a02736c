use Rattle.std.proofs.Common.{drop}
use Rattle.btf_encoding.specs.Records.{bits_of}
use Rattle.btf_records.specs.Fields.{variants_of}
use Rattle.report_needs.specs.Enums.{has_number, widened}
use Rattle.report_needs.proofs.Added.{AreAdded}
use Rattle.report_needs.proofs.numbers.add_32.Given as goal

abbrev pub invariant-loop-index : goal.invariant-loop-index
invariant-loop-index l =
    AreAdded (λ number v. has_number l.kernel v.name_offset (widened (bits_of l.t).flag v.value) number) (variants_of l.t) (drop l.index (variants_of l.t)) l.fn.numbers l.numbers

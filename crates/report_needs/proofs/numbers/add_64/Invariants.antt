use Rattle.std.proofs.Common.{drop}
use Rattle.btf_records.specs.Fields.{variants64_of}
use Rattle.btf_records.specs.Items.{value_of}
use Rattle.report_needs.specs.Enums.{has_number}
use Rattle.report_needs.proofs.Added.{AreAdded}
use Rattle.report_needs.proofs.numbers.add_64.Given as goal

abbrev pub invariant-loop-index : goal.invariant-loop-index
invariant-loop-index l =
    AreAdded (λ number v. has_number l.kernel v.name_offset (value_of v) number) (variants64_of l.t) (drop l.index (variants64_of l.t)) l.fn.numbers l.numbers

use Rattle.std.proofs.Common.{◌≡◌, find}
use Rattle.report_needs.specs.Kinds.{is_kind_enum, kind_enum}
use Rattle.report_needs.proofs.kinds.kind_enum.Given as goal

abbrev pub invariant-loop-t : goal.invariant-loop-t
invariant-loop-t l = find (is_kind_enum l.kernel) l.t-iterator ≡ kind_enum l.kernel

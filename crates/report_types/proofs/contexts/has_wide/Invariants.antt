use Rattle.std.proofs.Common.{◌≡◌, drop}
use Rattle.std.specs.List.{list_any}
use Rattle.btf_records.specs.Fields.{params_of}
use Rattle.report_types.specs.Contexts.{is_wide}
use Rattle.report_types.proofs.contexts.has_wide.Given as goal

abbrev pub invariant-loop-index : goal.invariant-loop-index
invariant-loop-index l = list_any (is_wide l.kernel) (drop l.index (params_of l.t)) ≡ list_any (is_wide l.kernel) (params_of l.t)

use Rattle.std.proofs.Common.{◌≡◌, drop}
use Rattle.std.specs.List.{list_any}
use Rattle.btf_records.specs.Fields.{params_of}
use Rattle.btf_sanitize.specs.Names.{is_nameless}
use Rattle.btf_sanitize.proofs.staying.has_nameless.Given as goal

abbrev pub invariant-loop-index : goal.invariant-loop-index
invariant-loop-index l = list_any is_nameless (drop l.index (params_of l.t)) ≡ list_any is_nameless (params_of l.t)

use Rattle.std.proofs.Common.{◌≡◌, ◌++◌, map}
use Rattle.std.specs.Prelude.{filter_map}
use Rattle.std.specs.String.{string_bytes}
use Rattle.object_externs.specs.Names.{by_bytes}
use Rattle.kernel_reports.specs.Reports.{target_name, target_names}
use Rattle.kernel_reports.proofs.program_names.target_names.Given as goal

abbrev pub invariant-loop-program : goal.invariant-loop-program
invariant-loop-program l = map string_bytes l.names.items ++ filter_map (λ p. target_name l.object p.1) (by_bytes l.program-iterator) ≡ target_names l.object

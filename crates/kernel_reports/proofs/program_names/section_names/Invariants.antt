use Rattle.std.proofs.Common.{◌≡◌, ◌++◌, map}
use Rattle.object_externs.specs.Names.{by_bytes}
use Rattle.object_parse.specs.LackingCode.{name_at}
use Rattle.kernel_reports.specs.Reports.{section_names}
use Rattle.kernel_reports.proofs.program_names.section_names.Given as goal

abbrev pub invariant-loop-program : goal.invariant-loop-program
invariant-loop-program l = map (λ name. name.now) l.names.items ++ map (λ p. name_at l.object.file p.1.section_index) (by_bytes l.program-iterator) ≡ section_names l.object

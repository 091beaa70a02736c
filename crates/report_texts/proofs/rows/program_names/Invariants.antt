use Rattle.std.proofs.Common.{◌≡◌, ◌++◌, map}
use Rattle.object_externs.specs.Names.{by_bytes}
use Rattle.report_texts.proofs.rows.program_names.Given as goal

abbrev pub invariant-loop-name : goal.invariant-loop-name
invariant-loop-name l = map (λ name. name.now) l.names.items ++ map (λ p. p.0) (by_bytes l.name-iterator) ≡ map (λ p. p.0) l.object.programs

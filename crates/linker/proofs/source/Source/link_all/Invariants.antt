use Rattle.std.proofs.Common.{◌≡◌, ◌++◌, List}
use Rattle.object_parts.specs.Names.{by_bytes}
use Rattle.linker.specs.Linked.{AllCanBeLinked, program_keys}
use Rattle.linker.specs.Installed.{AreLinkedTo}
use Rattle.linker.proofs.Installs.{Program}
use Rattle.linker.proofs.source.Source.link_all.Given as goal

abbrev pub invariant-loop-name : goal.invariant-loop-name
invariant-loop-name l = (done : List Program) × ((done ++ by_bytes l.name-iterator ≡ l.programs) × AreLinkedTo l.self (program_keys done) l.linked.items × AllCanBeLinked l.self (program_keys done))

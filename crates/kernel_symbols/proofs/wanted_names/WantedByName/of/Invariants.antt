use Rattle.std.proofs.Common.{take}
use Rattle.string_table.specs.Names.{by_bytes}
use Rattle.kernel_symbols.specs.Reading.{AreWanted, HasNoAddress}
use Rattle.kernel_symbols.specs.Wanted.{AreMarked}
use Rattle.kernel_symbols.proofs.wanted_names.WantedByName.of.Given as goal

abbrev pub invariant-loop-name : goal.invariant-loop-name
invariant-loop-name l = AreMarked (by_bytes l.by_name.entries) l.is_wanted × (AreWanted (take l.name-index l.names) (by_bytes l.by_name.entries) × HasNoAddress (by_bytes l.by_name.entries))

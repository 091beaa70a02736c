use Rattle.std.proofs.Common.{◌≡◌, take, None}
use Rattle.linker.specs.Layout.{first_open}
use Rattle.linker.specs.Unlinked.{refs_of}
use Rattle.linker.specs.Walks.{has_start_in}
use Rattle.linker.proofs.source.Source.next_open.Given as goal

abbrev pub invariant-loop-slot : goal.invariant-loop-slot
invariant-loop-slot l = first_open (has_start_in l.starts) (take l.slot (refs_of l.self l.function)) ≡ None

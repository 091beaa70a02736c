use Rattle.std.proofs.Common.{take}
use Rattle.slot_relocation.specs.Walks.{AreLastOf}
use Rattle.slot_relocation.proofs.map_index.MapIndex.new.Given as goal

abbrev pub invariant-loop-place : goal.invariant-loop-place
invariant-loop-place l = AreLastOf l.maps (take l.place l.maps) l.by_symbol l.by_section

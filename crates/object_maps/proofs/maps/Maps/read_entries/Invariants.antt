use Rattle.std.proofs.Common.{◌≡◌, flat_map}
use Rattle.object_maps.specs.BtfMaps.{entries_faults, entries_maps, entry_faults, entry_map}
use Rattle.object_maps.specs.Found.{entered}
use Rattle.object_maps.proofs.maps.Maps.read_entries.Given as goal

abbrev pub invariant-loop-entry : goal.invariant-loop-entry
invariant-loop-entry l = record {
  table : l.definitions ≡ l.fn.definitions;
  value : entered l.self (flat_map (entry_map l.fn.definitions l.section l.symbols) l.entry-iterator) ≡ entered l.fn.self (entries_maps l.fn.definitions l.section l.symbols l.t);
  faults : flat_map (entry_faults l.fn.definitions l.symbols) l.entry-iterator ≡ entries_faults l.fn.definitions l.symbols l.t;
}

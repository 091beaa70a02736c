use Rattle.std.proofs.Common.{◌≡◌, flat_map}
use Rattle.object_maps.specs.BtfMaps.{btf_maps, btf_maps_faults, record_faults, record_maps}
use Rattle.object_maps.specs.Found.{entered}
use Rattle.object_maps.proofs.maps.Maps.read_records.Given as goal

abbrev pub invariant-loop-t : goal.invariant-loop-t
invariant-loop-t l = record {
  table : l.definitions ≡ l.fn.definitions;
  value : entered l.self (flat_map (record_maps l.fn.definitions l.section l.symbols) l.t-iterator) ≡ entered l.fn.self (btf_maps l.fn.definitions l.symbols l.section);
  faults : flat_map (record_faults l.fn.definitions l.section l.symbols) l.t-iterator ≡ btf_maps_faults l.fn.definitions l.symbols l.section;
}

use Rattle.std.proofs.Common.{◌≤◌, ◌^◌}
use Rattle.object_maps.specs.Maps.{shown}
use Rattle.load_plan.proofs.MapNumbers.{IsNumbering}
use Rattle.load_plan.proofs.numbering.number_maps.Given as goal

abbrev pub invariant-loop-name : goal.invariant-loop-name
invariant-loop-name l = record {
  small : l.number ≤ 2 ^ 31;
  numbering : IsNumbering l.maps (shown l.name-iterator) l.used l.number l.initial.settings l.settings;
}

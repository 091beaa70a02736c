use Rattle.std.proofs.Common.{◌≡◌, flat_map}
use Rattle.std.specs.Prelude.{fold}
use Rattle.object_maps.specs.Definitions.{defined, definition_of, member_errors, errors, with_member}
use Rattle.object_maps.proofs.definitions.Definitions.read.Given as goal

abbrev pub invariant-loop-member : goal.invariant-loop-member
invariant-loop-member l = record {
  table : l.self ≡ l.fn.self;
  defined : fold (with_member l.fn.self) (definition_of l.defined) l.member-iterator ≡ defined l.fn.self l.struct_id;
  errors : flat_map (member_errors l.fn.self) l.member-iterator ≡ errors l.fn.self l.struct_id;
}

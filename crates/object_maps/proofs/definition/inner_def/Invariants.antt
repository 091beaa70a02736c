use Rattle.std.proofs.Common.{◌≡◌, flat_map}
use Rattle.std.specs.Prelude.{fold}
use Rattle.ebpf_items.specs.Maps.{btf_words}
use Rattle.object_maps.specs.Definitions.{inner_member_errors, inner_errors, inner_words, with_inner_member}
use Rattle.object_maps.proofs.definition.inner_def.Given as goal

abbrev pub invariant-loop-member : goal.invariant-loop-member
invariant-loop-member l = record {
  words : fold (with_inner_member l.table) (btf_words l.def) l.member-iterator ≡ inner_words l.table l.struct_id;
  errors : flat_map (inner_member_errors l.table) l.member-iterator ≡ inner_errors l.table l.struct_id;
}

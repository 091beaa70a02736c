use Rattle.std.proofs.Common.{◌≡◌, ◌++◌, List, true}
use Rattle.std.specs.Prelude.{filter}
use Rattle.object_file.specs.Relocations.{relocations_by_offset}
use Rattle.slot_relocation.specs.Walks.{are_sound}
use Rattle.object_parts.specs.Geometry.{is_inside}
use Rattle.slot_relocation.specs.Writes.{after_all}
use Rattle.slot_relocation.proofs.Rising.{Placed}
use Rattle.slot_relocation.proofs.by_symbol.slots_to_last.Given as goal

abbrev pub invariant-loop-offset : goal.invariant-loop-offset
invariant-loop-offset g l = (done : List Placed) × ((done ++ l.offset-iterator ≡ relocations_by_offset l.file l.function.section_index) × (l.slots ≡ after_all (g.R.Rule.rule l.rule) l.function (filter (λ r. is_inside l.function r.0) done)) × (are_sound (g.R.Rule.rule l.rule) l.function l.function.instructions (filter (λ r. is_inside l.function r.0) done) ≡ true))

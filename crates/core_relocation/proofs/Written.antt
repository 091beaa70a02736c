-- The writes of type relocations.
use Rattle.std.proofs.Common.{ℕ, List, ap, ◌∙◌}
use Rattle.std.specs.Option.{option_map}
use Rattle.object_parts.specs.Content.{FunctionContent}
use Rattle.slot_relocation.specs.WriteLaws.{LengthsRemain, OneWrites, UnwrittenStay}
use Rattle.core_relocation.specs.Laws.{HaveTypes, TypesAreWritten}
use Rattle.core_relocation.specs.Relocations.{SectionInfos, TypesGiven}
use Rattle.core_relocation.specs.Writes.{AreRelocated, type_rule, types_inside, with_types}
use Rattle.core_relocation.specs.declared.placed_relocation.PlacedRelocation.{PlacedRelocation}
use Rattle.core_patch.specs.declared.instruction.WriteError.{WriteError}
use Rattle.core_relocation.proofs.Carried.{slot_carries_type}

have_types : OneWrites PlacedRelocation WriteError → UnwrittenStay PlacedRelocation WriteError → LengthsRemain PlacedRelocation WriteError → (g : TypesGiven) (section_infos : SectionInfos) (new : List ((ℕ × ℕ) × FunctionContent)) → AreRelocated g section_infos new → HaveTypes g section_infos new
have_types one stay lengths g section_infos new are key f at = (
  with_types g section_infos f,
  are.at key ∙ ap (option_map (with_types g section_infos)) at,
  record {
    alone = λ place s p within. one.each type_rule f (types_inside g section_infos f) p.relocation p.write place s p.made p.puts within p.alone;
    carried = slot_carries_type g section_infos f;
    others = stay.each type_rule f (types_inside g section_infos f);
    as_many = lengths.each type_rule f (types_inside g section_infos f);
  },
)

pub types_are_written : OneWrites PlacedRelocation WriteError → UnwrittenStay PlacedRelocation WriteError → LengthsRemain PlacedRelocation WriteError → TypesAreWritten
types_are_written one stay lengths = record { each = have_types one stay lengths }

-- Functions after the relocations by maps.
use Rattle.std.proofs.Common.{◌≡◌, ℕ, List, Some, ap, ◌∙◌}
use Rattle.std.specs.Prelude.{slice_get}
use Rattle.std.specs.Option.{option_map}
use Rattle.ebpf_items.specs.Instruction.{src_reg_of}
use Rattle.ebpf_items.specs.declared.instruction.bpf_insn.{bpf_insn}
use Rattle.elf64.specs.Relocations.{Relocation}
use Rattle.object_parts.specs.Content.{FunctionContent}
use Rattle.slot_relocation.specs.declared.outcome.Fault.{Fault}
use Rattle.slot_relocation.specs.declared.outcome.Write.{Write}
use Rattle.slot_relocation.specs.Laws.{CarriesNumber, HaveNumbers, NumbersAreWritten, SlotsCarryNumbers, Writes, slots_after}
use Rattle.slot_relocation.specs.Maps.{MapsGiven, map_rule, outcome_by}
use Rattle.slot_relocation.specs.WriteLaws.{LengthsRemain, OneWrites, UnwrittenStay, WritesAreKept}
use Rattle.slot_relocation.specs.Writes.{AreRelocated, after_all, distance, index_of_slot, relocated, relocations_inside}
use Rattle.slot_relocation.proofs.Numbers.{made_by, source_marks}
use Rattle.slot_relocation.proofs.Standing.{is_kept}

pub writes_are_kept : WritesAreKept
writes_are_kept = record { each = is_kept }

carries : (g : MapsGiven) (f : FunctionContent) (r : ℕ × Relocation) (w : Write) → Writes g f r w → (s : bpf_insn) × (slice_get (slots_after g f) (index_of_slot f r.0) ≡ Some s) × CarriesNumber g r.1 s
carries g f r w m =
    let made = made_by g (after_all (map_rule g) f m.before) (distance f r.0) r.1 w m.outcome in (
      w.first,
      (is_kept g.file (outcome_by g.text_sections g.maps) f r w m).kept,
      record {
        map = made.map;
        named = made.named;
        number = ap (λ s. s.imm) made.first;
        source = ap src_reg_of made.first ∙ source_marks made.slot made.map.map.contents made.map.number;
      },
    )

pub slots_carry_numbers : SlotsCarryNumbers
slots_carry_numbers = record { each = carries }

have_numbers : SlotsCarryNumbers → OneWrites Relocation Fault → UnwrittenStay Relocation Fault → LengthsRemain Relocation Fault → (g : MapsGiven) (old new : List ((ℕ × ℕ) × FunctionContent)) → AreRelocated (map_rule g) g.file old new → HaveNumbers g old new
have_numbers carry one stay lengths g old new are key f at = (
  relocated (map_rule g) g.file f,
  are.at key ∙ ap (option_map (relocated (map_rule g) g.file)) at,
  record {
    numbers = carry.each g f;
    alone = λ place s p within. one.each (map_rule g) f (relocations_inside g.file f) p.relocation p.write place s p.made p.puts within p.alone;
    others = stay.each (map_rule g) f (relocations_inside g.file f);
    as_many = lengths.each (map_rule g) f (relocations_inside g.file f);
  },
)

pub numbers_are_written : SlotsCarryNumbers → OneWrites Relocation Fault → UnwrittenStay Relocation Fault → LengthsRemain Relocation Fault → NumbersAreWritten
numbers_are_written carry one stay lengths = record { each = have_numbers carry one stay lengths }

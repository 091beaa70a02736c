-- The writes of the rule for maps.
use Rattle.std.proofs.Common.{arith, ◌≡◌, ℕ, ◌+◌, ◌/◌, ◌%◌, ◌||◌, Bool, true, false, cond, List, [], ◌∷◌, Option, Some, refl, sym, ap, ◌∙◌}
use Rattle.std.specs.Prelude.{slice_get, option_and_then, ℤ, pos, ◌+ℤ◌}
use Rattle.ebpf_items.specs.Instruction.{is_pseudo_call, src_reg_of}
use Rattle.ebpf_items.specs.declared.instruction.bpf_insn.{bpf_insn}
use Rattle.elf64.specs.Relocations.{Relocation}
use Rattle.elf64.specs.Symbols.{Symbol}
use Rattle.object_file.specs.Symbols.{symbol_at}
use Rattle.slot_relocation.specs.declared.outcome.Fault.{Fault}
use Rattle.slot_relocation.specs.declared.outcome.Fault.TheVariants.{InvalidOffset, NoMap}
use Rattle.slot_relocation.specs.declared.outcome.Outcome.{Outcome}
use Rattle.slot_relocation.specs.declared.outcome.Outcome.TheVariants.{Skipped, Written, Refused}
use Rattle.slot_relocation.specs.declared.outcome.Write.{Write}
use Rattle.slot_relocation.specs.BySymbol.{symbol_index}
use Rattle.slot_relocation.specs.Maps.{MapsGiven, NumberedMap, fits_32_bits, has_functions, map_for, map_rule, outcome_by, outcome_for, outcome_in, variable_write}
use Rattle.slot_relocation.specs.Slots.{with_number}
use Rattle.slot_relocation.specs.Laws.{map_by, map_of, mark_of}
use Rattle.slot_relocation.proofs.BySymbol.{under_option, not_refused, not_skipped, stands}

abbrev first_in : bpf_insn → Outcome Fault → bpf_insn
first_in d (Written w) = w.first
first_in d _ = d

unless : (b : Bool) (o : Outcome Fault) (w : Write) → cond b Skipped o ≡ Written w → o ≡ Written w
unless true o w e = absurd (not_skipped w e)
unless false o w e = e

where_fits : (b : Bool) (v w : Write) → cond b (Written v) (Refused InvalidOffset) ≡ Written w → ◌≡◌ {A = Outcome Fault} (Written v) (Written w)
where_fits true v w e = e
where_fits false v w e = absurd (not_refused InvalidOffset w e)

first_for : (m : NumberedMap) (bytes : List ℕ) (slot : bpf_insn) (next : Option bpf_insn) (address : ℕ) (w : Write) → outcome_for m bytes slot next address ≡ Written w → w.first ≡ with_number slot (mark_of bytes) m.number
first_for m [] slot next address w e = sym (ap (first_in slot) e)
first_for m (byte ∷ bytes) slot next address w e =
    let n = under_option next (λ n. variable_write m slot n (slot.imm +ℤ pos address)) (Refused InvalidOffset) w (not_refused InvalidOffset w) e in
    sym (ap (first_in slot) (where_fits (fits_32_bits (slot.imm +ℤ pos address)) (record { first = with_number slot 2 m.number; next = Some (record n.0 { imm = slot.imm +ℤ pos address }) }) w n.2))

-- The slot that is written, and the map whose number it is set to.
pub record Made (g : MapsGiven) (slots : List bpf_insn) (distance : ℕ) (r : Relocation) (w : Write) : Type 0 where
  pub slot : bpf_insn
  pub map : NumberedMap
  pub at : slice_get slots (distance / 8) ≡ Some slot
  pub named : map_of g r ≡ Some map
  pub first : w.first ≡ with_number slot (mark_of map.map.contents) map.number

named_by : (g : MapsGiven) (r : Relocation) (s : Symbol) (section : ℕ) (m : NumberedMap) → symbol_at g.file (symbol_index r) ≡ Some s → s.section_index ≡ Some section → map_for g.maps (symbol_index r) section ≡ Some m → map_of g r ≡ Some m
named_by g r s section m known within found =
    ap (option_and_then (map_by g (symbol_index r))) known ∙ ap (option_and_then (map_for g.maps (symbol_index r))) within ∙ found

pub made_by : (g : MapsGiven) (slots : List bpf_insn) (distance : ℕ) (r : Relocation) (w : Write) → map_rule g slots distance r ≡ Written w → Made g slots distance r w
made_by g slots distance r w e =
    let next = slice_get slots (distance / 8 + 1) in
    let index = symbol_index r in
    let s = stands g.file (outcome_by g.text_sections g.maps) slots distance r w e in
    let section = under_option s.symbol.section_index (outcome_in g.text_sections g.maps s.slot next index s.symbol) Skipped w (not_skipped w) s.made in
    let kept = unless (is_pseudo_call s.slot || has_functions g.text_sections section.0) _ w section.2 in
    let map = under_option (map_for g.maps index section.0) (λ m. outcome_for m m.map.contents s.slot next s.symbol.address) (Refused (NoMap section.0 index)) w (not_refused (NoMap section.0 index) w) kept in
    record {
      slot = s.slot;
      map = map.0;
      at = s.at;
      named = named_by g r s.symbol section.0 map.0 s.known section.1 map.1;
      first = first_for map.0 map.0.map.contents s.slot next s.symbol.address w map.2;
    }

-- The source register of a slot is the low four bits of the number that was written.
source_of : (slot : bpf_insn) (source : ℕ) (number : ℤ) → src_reg_of (with_number slot source number) ≡ source % 16
source_of slot source number = omega arith

marked : (bytes : List ℕ) → mark_of bytes % 16 ≡ mark_of bytes
marked [] = refl
marked (byte ∷ bytes) = refl

pub source_marks : (slot : bpf_insn) (bytes : List ℕ) (number : ℤ) → src_reg_of (with_number slot (mark_of bytes) number) ≡ mark_of bytes
source_marks slot bytes number = source_of slot (mark_of bytes) number ∙ marked bytes

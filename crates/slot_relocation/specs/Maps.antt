-- The rule for relocations by maps and variables: a slot is set to the number of the map, and for a
-- variable the next slot to the variable's offset in the map's value.
use Rattle.std.specs.Prelude.{ℕ, ◌^◌, ◌==◌, ◌||◌, nat_lt, Bool, false, if◌then◌else◌, List, [], ◌∷◌, find, reverse, Option, Some, None, ℤ, pos, negsuc, ◌+ℤ◌}
use Rattle.std.specs.BTreeMap.{is_at}
use Rattle.std.specs.List.{list_any}
use Rattle.std.specs.Option.{option_map_or, option_or}
use Rattle.std.specs.Ordering.{nat_cmp}
use Rattle.ebpf_items.specs.Instruction.{is_pseudo_call}
use Rattle.ebpf_items.specs.Maps.{MapView}
use Rattle.ebpf_items.specs.declared.instruction.bpf_insn.{bpf_insn}
use Rattle.elf64.specs.Symbols.{Symbol}
pub use Rattle.slot_relocation.specs.BySymbol.{symbol_index}
use Rattle.slot_relocation.specs.BySymbol.{symbol_rule}
use Rattle.slot_relocation.specs.Slots.{with_number}
use Rattle.slot_relocation.specs.Writes.{Rule}
use Rattle.slot_relocation.specs.declared.outcome.Fault.{Fault}
use Rattle.slot_relocation.specs.declared.outcome.Fault.TheVariants.{InvalidOffset, NoMap}
use Rattle.slot_relocation.specs.declared.outcome.Outcome.{Outcome}
use Rattle.slot_relocation.specs.declared.outcome.Outcome.TheVariants.{Skipped, Written, Refused}

-- A map with its name and its number.
pub record NumberedMap : Type 0 where
  pub name : List ℕ
  pub number : ℤ
  pub map : MapView

-- The inputs of the rule: the object's file, the indexes of its sections with functions, and the
-- maps in order.
pub record MapsGiven : Type 0 where
  pub file : List ℕ
  pub text_sections : List ℕ
  pub maps : List NumberedMap

abbrev pub given : List ℕ → List ℕ → List NumberedMap → MapsGiven
given file text_sections maps = record { file = file; text_sections = text_sections; maps = maps }

abbrev pub is_of_symbol : ℕ → NumberedMap → Bool
is_of_symbol index m = option_map_or (λ i. i == index) m.map.symbol_index false

abbrev pub is_of_section : ℕ → NumberedMap → Bool
is_of_section index m = m.map.section_index == index

-- The last map that passes a test.
abbrev pub last_map : (NumberedMap → Bool) → List NumberedMap → Option NumberedMap
last_map test maps = find test (reverse maps)

-- The map of a symbol in a section: the last map of the symbol, or else the last map of the
-- section.
abbrev pub map_for : List NumberedMap → ℕ → ℕ → Option NumberedMap
map_for maps symbol section =
    option_or (last_map (is_of_symbol symbol) maps) (last_map (is_of_section section) maps)

-- Whether a signed number fits in 32 bits.
abbrev pub fits_32_bits : ℤ → Bool
fits_32_bits (pos n) = nat_lt n (2 ^ 31)
fits_32_bits (negsuc n) = nat_lt n (2 ^ 31)

-- The write of a map's number. Source register 1 (BPF_PSEUDO_MAP_FD) marks it.
abbrev pub map_write : NumberedMap → bpf_insn → Outcome Fault
map_write m slot = Written (record { first = with_number slot 1 m.number; next = None })

-- The write of a variable. Source register 2 (BPF_PSEUDO_MAP_VALUE) marks the number of its map,
-- and its offset in the value is the next slot's immediate.
abbrev pub variable_write : NumberedMap → bpf_insn → bpf_insn → ℤ → Outcome Fault
variable_write m slot next place =
    if fits_32_bits place
    then Written (record {
      first = with_number slot 2 m.number;
      next = Some (record next { imm = place });
    })
    else Refused InvalidOffset

-- The outcome for a variable. Its offset is the sum of its symbol's address and the slot's
-- immediate.
abbrev pub variable_outcome : NumberedMap → bpf_insn → Option bpf_insn → ℕ → Outcome Fault
variable_outcome m slot next address =
    option_map_or (λ n. variable_write m slot n (slot.imm +ℤ pos address)) next
    (Refused InvalidOffset)

-- The outcome for a map. A map with bytes holds variables.
abbrev pub outcome_for : NumberedMap → List ℕ → bpf_insn → Option bpf_insn → ℕ → Outcome Fault
outcome_for m [] slot next address = map_write m slot
outcome_for m (byte ∷ bytes) slot next address = variable_outcome m slot next address

-- Whether the section of an index has functions.
abbrev pub has_functions : List ℕ → ℕ → Bool
has_functions text_sections section = list_any (is_at (nat_cmp section)) text_sections

-- The outcome for a symbol of a section. A symbol of a section without functions is a map or a
-- variable.
abbrev pub outcome_in : List ℕ
    → List NumberedMap
    → bpf_insn
    → Option bpf_insn
    → ℕ
    → Symbol
    → ℕ
    → Outcome Fault
outcome_in text_sections maps slot next index s section =
    if is_pseudo_call slot || has_functions text_sections section then Skipped
    else option_map_or (λ m. outcome_for m m.map.contents slot next s.address)
    (map_for maps index section) (Refused (NoMap section index))

abbrev pub outcome_by : List ℕ
    → List NumberedMap
    → bpf_insn
    → Option bpf_insn
    → ℕ
    → Symbol
    → Outcome Fault
outcome_by text_sections maps slot next index s =
    option_map_or (outcome_in text_sections maps slot next index s) s.section_index Skipped

-- The rule for maps. A relocation must be at a whole slot and have a known symbol.
abbrev pub map_rule : MapsGiven → Rule
map_rule g slots distance r =
    symbol_rule g.file (outcome_by g.text_sections g.maps) slots distance r

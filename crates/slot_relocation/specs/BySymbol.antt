-- Relocations by a symbol.
use Rattle.std.specs.Prelude.{ℕ, ◌+◌, ◌/◌, ◌%◌, ◌==◌, if◌then◌else◌, List, slice_get, Option, None, unwrap_or}
use Rattle.std.specs.Option.{option_map_or}
use Rattle.ebpf_items.specs.declared.instruction.bpf_insn.{bpf_insn}
use Rattle.elf64.specs.Relocations.{Relocation}
use Rattle.elf64.specs.Symbols.{Symbol}
use Rattle.object_file.specs.Symbols.{symbol_at}
use Rattle.slot_relocation.specs.Writes.{Rule}
use Rattle.slot_relocation.specs.declared.outcome.Fault.{Fault}
use Rattle.slot_relocation.specs.declared.outcome.Fault.TheVariants.{InvalidOffset, UnknownSymbol}
use Rattle.slot_relocation.specs.declared.outcome.Outcome.{Outcome}
use Rattle.slot_relocation.specs.declared.outcome.Outcome.TheVariants.{Refused}

-- The outcome for a slot, the next slot if there is one, and the symbol of an index.
abbrev pub Does : Type 0
Does = bpf_insn → Option bpf_insn → ℕ → Symbol → Outcome Fault

-- The index of a relocation's symbol. 0 means none, and no symbol has the index 0.
abbrev pub symbol_index : Relocation → ℕ
symbol_index r = unwrap_or r.symbol 0

-- The outcome of a relocation at a slot.
abbrev pub outcome_of : List ℕ → Does → bpf_insn → Option bpf_insn → Relocation → Outcome Fault
outcome_of file does slot next r =
    option_map_or (does slot next (symbol_index r)) (symbol_at file (symbol_index r))
    (Refused (UnknownSymbol (symbol_index r)))

-- The slot that begins at a distance in bytes from the start of its function.
abbrev pub slot_at : List bpf_insn → ℕ → Option bpf_insn
slot_at slots distance = if distance % 8 == 0 then slice_get slots (distance / 8) else None

-- The rule: a relocation must be at a whole slot and have a known symbol, which determine its
-- outcome.
abbrev pub symbol_rule : List ℕ → Does → Rule
symbol_rule file does slots distance r =
    option_map_or (λ slot. outcome_of file does slot (slice_get slots (distance / 8 + 1)) r)
    (slot_at slots distance) (Refused InvalidOffset)

-- The functions that a function's slots refer to, by the relocations of its section and by calls
-- without a relocation.
use Rattle.std.specs.Prelude.{ℕ, ◌+◌, ◌*◌, ◌^◌, ◌==◌, ◌||◌, nat_lt, Bool, true, false, if◌then◌else◌, List, Option, Some, None, option_and_then, ℤ, pos, ◌+ℤ◌, ◌*ℤ◌}
use Rattle.std.specs.Option.{option_map_or}
use Rattle.ebpf_items.specs.declared.instruction.bpf_insn.{bpf_insn}
use Rattle.ebpf_items.specs.Instruction.{is_pseudo_call}
use Rattle.elf64.specs.declared.kind.SymbolKind.{SymbolKind}
use Rattle.elf64.specs.declared.kind.SymbolKind.TheVariants as kind
use Rattle.elf64.specs.Relocations.{Relocation}
use Rattle.elf64.specs.Symbols.{Symbol}
use Rattle.object_file.specs.Relocations.{relocation_at}
use Rattle.object_file.specs.Symbols.{symbol_at}
use Rattle.object_parts.specs.Content.{FunctionContent}
use Rattle.linker.specs.declared.target.Target.{Target}
use Rattle.linker.specs.declared.target.Target.TheVariants.{Nothing, Function, UnknownSymbol}

-- The offset of a function's slot in its section, in bytes.
abbrev pub slot_offset : FunctionContent → ℕ → ℕ
slot_offset f slot = f.section_offset + 8 * slot

-- The relocation of a slot. Offsets of relocations are numbers of 64 bits.
abbrev pub relocation_of : List ℕ → FunctionContent → ℕ → Option Relocation
relocation_of file f slot =
    if nat_lt (slot_offset f slot) (2 ^ 64)
    then relocation_at file f.section_index (slot_offset f slot)
    else None

abbrev pub is_text : SymbolKind → Bool
is_text kind.Text = true
is_text _ = false

-- Whether a symbol can stand for a function: it is code, or in a section with functions. An extern
-- symbol is neither.
abbrev pub stands_for_function : (ℕ → Bool) → Symbol → Bool
stands_for_function has_functions s =
    is_text s.kind || option_map_or has_functions s.section_index false

-- A symbol that a relocation names, its index, and the number of bits that the relocation fills.
pub record Reference : Type 0 where
  pub index : ℕ
  pub width : ℕ
  pub symbol : Symbol

-- The reference of a relocation, if its symbol can stand for a function.
abbrev pub reference_to : (ℕ → Bool) → ℕ → ℕ → Symbol → Option Reference
reference_to has_functions width index s =
    if stands_for_function has_functions s then Some (record { index = index; width = width; symbol = s }) else None

abbrev pub reference_by : List ℕ → (ℕ → Bool) → Relocation → Option Reference
reference_by file has_functions r =
    option_and_then (λ index.
    option_and_then (reference_to has_functions r.width index) (symbol_at file index)) r.symbol

abbrev pub reference_of : List ℕ → (ℕ → Bool) → FunctionContent → ℕ → Option Reference
reference_of file has_functions f slot =
    option_and_then (reference_by file has_functions) (relocation_of file f slot)

-- The address that a reference leads to, by the symbol's kind and address and the slot's immediate.
-- For a function's symbol it is the address of the function. For a section's symbol it is an
-- address in the section: a relocation of 32 bits is that of a call, whose immediate counts slots
-- from the next one on, and a relocation of 64 bits is that of a load, whose immediate counts
-- bytes.
abbrev pub address_by : SymbolKind → ℕ → ℕ → ℤ → Option ℤ
address_by kind.Text address width imm = Some (pos address)
address_by kind.Section address width imm =
    if width == 32 then Some (pos address +ℤ pos 8 *ℤ (imm +ℤ pos 1))
    else (if width == 64 then Some (pos address +ℤ imm) else None)
address_by _ address width imm = None

-- The function at an address of a section. A symbol without a section or of another kind stands for
-- no function.
abbrev pub target_in : ℕ → Option ℕ → Option ℤ → Target
target_in index (Some section) (Some address) = Function section address
target_in index (Some section) None = UnknownSymbol index
target_in index None _ = UnknownSymbol index

abbrev pub target_by : Reference → ℤ → Target
target_by r imm =
    target_in r.index r.symbol.section_index (address_by r.symbol.kind r.symbol.address r.width imm)

-- The target of a slot without a reference. A call counts slots from the next one on in its own
-- section.
abbrev pub called_by : FunctionContent → ℕ → bpf_insn → Target
called_by f slot s =
    if is_pseudo_call s
    then Function f.section_index (pos (slot_offset f slot) +ℤ pos 8 *ℤ (s.imm +ℤ pos 1))
    else Nothing

-- The target of a function's slot.
abbrev pub target_of : List ℕ → (ℕ → Bool) → FunctionContent → ℕ → bpf_insn → Target
target_of file has_functions f slot s =
    option_map_or (λ r. target_by r s.imm) (reference_of file has_functions f slot)
    (called_by f slot s)

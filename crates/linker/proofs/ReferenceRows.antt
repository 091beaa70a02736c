-- Worked targets, computed.
use Rattle.std.proofs.Common.{◌≡◌, ℕ, [], Option, Some, None, refl, pos, negsuc, true, false}
use Rattle.elf64.specs.declared.kind.SymbolKind.{SymbolKind}
use Rattle.elf64.specs.declared.kind.SymbolKind.TheVariants as kind
use Rattle.elf64.specs.Symbols.{Symbol}
use Rattle.object_parts.specs.Content.{FunctionContent}
use Rattle.linker.specs.declared.target.Target.TheVariants.{Nothing, Function, UnknownSymbol}
use Rattle.linker.specs.Targets.{Reference, called_by, target_by}

abbrev symbol_of : SymbolKind → Option ℕ → ℕ → Symbol
symbol_of k section address = record {
  index = 2;
  name_offset = 0;
  name = None;
  section_index = section;
  address = address;
  size = 0;
  kind = k;
  is_definition = true;
  is_global = true;
  is_weak = false;
}

abbrev by : ℕ → Symbol → Reference
by width s = record { index = 2; width = width; symbol = s }

-- The target of a function's symbol is the function, whatever the immediate.
function_symbol : target_by (by 32 (symbol_of kind.Text (Some 4) 16)) (negsuc 0) ≡ Function 4 (pos 16)
function_symbol = refl

-- The target of a section's symbol: a call counts slots from the next one on, a load bytes.
section_call : target_by (by 32 (symbol_of kind.Section (Some 4) 0)) (pos 1) ≡ Function 4 (pos 16)
section_call = refl

section_load : target_by (by 64 (symbol_of kind.Section (Some 4) 0)) (pos 16) ≡ Function 4 (pos 16)
section_load = refl

below_the_section : target_by (by 32 (symbol_of kind.Section (Some 4) 0)) (negsuc 1) ≡ Function 4 (negsuc 7)
below_the_section = refl

-- References that can't stand for a function.
other_width : target_by (by 0 (symbol_of kind.Section (Some 4) 0)) (pos 0) ≡ UnknownSymbol 2
other_width = refl

other_kind : target_by (by 32 (symbol_of kind.Data (Some 4) 0)) (pos 0) ≡ UnknownSymbol 2
other_kind = refl

without_section : target_by (by 32 (symbol_of kind.Text None 0)) (pos 0) ≡ UnknownSymbol 2
without_section = refl

-- A call without a relocation, at the second slot of a function 8 bytes after its section's
-- beginning.
abbrev caller : FunctionContent
caller = record {
  address = 8;
  name = [];
  section_index = 3;
  section_offset = 8;
  instructions = [];
  func_info = [];
  line_info = [];
  func_info_rec_size = 0;
  line_info_rec_size = 0;
  matched_tables = [];
}

own_section : called_by caller 1 (record { code = 133; registers = 16; off = pos 0; imm = negsuc 2 }) ≡ Function 3 (pos 0)
own_section = refl

no_call : called_by caller 1 (record { code = 183; registers = 16; off = pos 0; imm = negsuc 2 }) ≡ Nothing
no_call = refl

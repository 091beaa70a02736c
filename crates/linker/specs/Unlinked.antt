-- The object that programs are linked from: its functions, and the functions that their slots refer
-- to.
use Rattle.std.specs.Prelude.{ℕ, ◌+◌, ◌^◌, nat_lt, Bool, if◌then◌else◌, List, [], ◌∷◌, Option, Some, None, option_and_then, ℤ, pos, negsuc}
use Rattle.std.specs.BTreeMap.{is_at}
use Rattle.std.specs.List.{list_any}
use Rattle.std.specs.Ordering.{nat_cmp}
use Rattle.ebpf_items.specs.declared.instruction.bpf_insn.{bpf_insn}
use Rattle.object_parts.specs.Content.{FunctionContent, function_at, has_function}
use Rattle.linker.specs.Layout.{Key, Table}
use Rattle.linker.specs.declared.target.Target.{Target}
use Rattle.linker.specs.declared.target.Target.TheVariants as target
use Rattle.linker.specs.Targets.{target_of}

-- An object's file, the indexes of its sections with functions, and its functions by key.
pub record Unlinked : Type 0 where
  pub file : List ℕ
  pub text_sections : List ℕ
  pub functions : List (Key × FunctionContent)

-- The key of an address. Addresses of functions are numbers of 64 bits.
abbrev pub key_at : ℕ → ℤ → Option Key
key_at section (pos address) = if nat_lt address (2 ^ 64) then Some (section, address) else None
key_at section (negsuc n) = None

-- A key, if a function has it.
abbrev pub if_there : List (Key × FunctionContent) → Key → Option Key
if_there functions key = if has_function functions key then Some key else None

-- The key of the function that begins at an address of a section.
abbrev pub function_in : List (Key × FunctionContent) → ℕ → ℤ → Option Key
function_in functions section address =
    option_and_then (if_there functions) (key_at section address)

-- The key of a target's function.
abbrev pub found : List (Key × FunctionContent) → Target → Option Key
found functions target.Nothing = None
found functions (target.UnknownSymbol index) = None
found functions (target.Function section address) = function_in functions section address

-- Whether a section has functions.
abbrev pub is_text_section : Unlinked → ℕ → Bool
is_text_section u index = list_any (is_at (nat_cmp index)) u.text_sections

-- The target of a function's slot.
abbrev pub target_at : Unlinked → FunctionContent → ℕ → bpf_insn → Target
target_at u f slot s = target_of u.file (is_text_section u) f slot s

-- The key of the function that a slot refers to.
abbrev pub ref_of : Unlinked → FunctionContent → ℕ → bpf_insn → Option Key
ref_of u f slot s = found u.functions (target_at u f slot s)

-- The keys of the functions that a function's slots refer to, from `slot` on.
abbrev pub refs_from : Unlinked → FunctionContent → ℕ → List bpf_insn → List (Option Key)
refs_from u f slot [] = []
refs_from u f slot (s ∷ ss) = ref_of u f slot s ∷ refs_from u f (slot + 1) ss

abbrev pub refs_of : Unlinked → FunctionContent → List (Option Key)
refs_of u f = refs_from u f 0 f.instructions

abbrev pub slots_in : Option FunctionContent → List bpf_insn
slots_in None = []
slots_in (Some f) = f.instructions

abbrev pub refs_in : Unlinked → Option FunctionContent → List (Option Key)
refs_in u None = []
refs_in u (Some f) = refs_of u f

-- The functions by key.
unfoldable pub table_of : Unlinked → Table
table_of u = record {
  slots = λ key. slots_in (function_at u.functions key);
  refs = λ key. refs_in u (function_at u.functions key);
}

-- The parts of an object: its programs and functions.
use Rattle.std.specs.Prelude.{◌≡◌, ℕ, List, [], ◌∷◌, map, ⊤, Bool, true, Option, Some, is_some, if◌then◌else◌}
use Rattle.std.specs.BTreeMap.{is_at}
use Rattle.std.specs.List.{list_any}
use Rattle.std.specs.Map.{lookup, keys_of}
use Rattle.std.specs.declared.cmp.Ordering.{Ordering}
use Rattle.std.specs.Ordering.{nat_cmp, ordering_then}
use Rattle.btf_ext.specs.declared.record.bpf_func_info.{bpf_func_info}
use Rattle.btf_ext.specs.declared.record.bpf_line_info.{bpf_line_info}
use Rattle.ebpf_items.specs.Instruction.{calls_newer_helper, with_older_helper}
use Rattle.ebpf_items.specs.declared.instruction.bpf_insn.{bpf_insn}
use Rattle.program_kinds.specs.declared.program_section.ProgramSection.{ProgramSection}

-- A program. Its license and version are those of the object, its section index and address are its
-- function's key.
pub record ProgramContent : Type 0 where
  pub license : List ℕ
  pub kernel_version : Option ℕ
  pub section : ProgramSection
  pub section_index : ℕ
  pub address : ℕ

-- A function with its slots and records, and the kernel tables that its type relocations matched.
-- The sizes of records are in bytes.
pub record FunctionContent : Type 0 where
  pub address : ℕ
  pub name : List ℕ
  pub section_index : ℕ
  pub section_offset : ℕ
  pub instructions : List bpf_insn
  pub func_info : List bpf_func_info
  pub line_info : List bpf_line_info
  pub func_info_rec_size : ℕ
  pub line_info_rec_size : ℕ
  pub matched_tables : List ℕ

-- Keys are ordered by section index, then by address.
abbrev pub key_cmp : (ℕ × ℕ) → (ℕ × ℕ) → Ordering
key_cmp a b = ordering_then (nat_cmp a.0 b.0) (nat_cmp a.1 b.1)

abbrev pub key_of : FunctionContent → ℕ × ℕ
key_of f = (f.section_index, f.address)

-- Each function is stored under its key.
unfoldable pub AreKeyed : List ((ℕ × ℕ) × FunctionContent) → Type 0
AreKeyed [] = ⊤
AreKeyed (e ∷ es) = (e.0 ≡ key_of e.1) × AreKeyed es

-- Whether there is a function with a key.
abbrev pub has_function : List ((ℕ × ℕ) × FunctionContent) → ℕ × ℕ → Bool
has_function functions key = is_some (lookup (is_at (key_cmp key)) functions)

-- The functions of all programs are present.
unfoldable pub HaveFunctions : List (List ℕ × ProgramContent)
    → List ((ℕ × ℕ) × FunctionContent)
    → Type 0
HaveFunctions [] functions = ⊤
HaveFunctions (e ∷ es) functions =
    (has_function functions (e.1.section_index, e.1.address) ≡ true) × HaveFunctions es functions

abbrev pub function_at : List ((ℕ × ℕ) × FunctionContent) → ℕ × ℕ → Option FunctionContent
function_at functions key = lookup (is_at (key_cmp key)) functions

-- Whether some slot of a function calls a helper for which an older helper exists.
abbrev pub has_newer_helper : List ((ℕ × ℕ) × FunctionContent) → Bool
has_newer_helper functions = list_any (λ e. list_any calls_newer_helper e.1.instructions) functions

-- The function with each newer helper replaced by the older one.
abbrev pub with_older_helpers : FunctionContent → FunctionContent
with_older_helpers f = record f { instructions = map with_older_helper f.instructions }

-- The function replaces the one with its key. All other functions and all keys are unchanged.
pub record Replaces (old new : List ((ℕ × ℕ) × FunctionContent)) (f : FunctionContent)
    : Type 0 where
  pub keys : keys_of new ≡ keys_of old
  pub at : (key : ℕ × ℕ)
      → function_at new key
      ≡ (if is_at (key_cmp (key_of f)) key then Some f else function_at old key)

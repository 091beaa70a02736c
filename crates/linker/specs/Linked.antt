-- Linked programs.
use Rattle.std.specs.Prelude.{◌≡◌, ◌⊎◌, ℕ, true, false, List, [], ◌∷◌, map, Option, Some}
use Rattle.std.specs.Map.{keys_of}
use Rattle.btf_ext.specs.declared.record.bpf_func_info.{bpf_func_info}
use Rattle.btf_ext.specs.declared.record.bpf_line_info.{bpf_line_info}
use Rattle.ebpf_items.specs.declared.instruction.bpf_insn.{bpf_insn}
use Rattle.object_parts.specs.Content.{FunctionContent, ProgramContent, function_at, key_of}
use Rattle.relocation_errors.specs.declared.error.RelocationError.{RelocationError}
use Rattle.linker.specs.Layout.{Key, IsLayout, linked, has}
use Rattle.linker.specs.Machines.{VisitsSame}
use Rattle.linker.specs.Reached.{AreReached}
use Rattle.linker.specs.Unlinked.{Unlinked, table_of}
use Rattle.linker.specs.Records.{functions_of, lines_of, tables_of}
use Rattle.linker.specs.Faults.{CanBeLinked, HasLinkFault}

-- A function with other slots, records and kernel tables.
abbrev pub with_copies : FunctionContent
    → List bpf_insn
    → List bpf_func_info
    → List bpf_line_info
    → List ℕ
    → FunctionContent
with_copies f slots functions lines tables = record f {
  instructions = slots;
  func_info = functions;
  line_info = lines;
  matched_tables = tables;
}

-- A program's function with its copies appended.
abbrev pub linked_function : Unlinked → Key → List Key → FunctionContent → FunctionContent
linked_function u own ks f =
    with_copies f (linked (table_of u) own ks) (functions_of u own ks) (lines_of u own ks)
    (tables_of u own ks)

-- The function of a key is linked: its slots are those of its layout. The appended copies are those
-- of the functions that chains of references reach, and the linked slots are visited in the order
-- in which the functions' slots are.
pub record IsLinked (u : Unlinked) (own : Key) (g : FunctionContent) : Type 0 where
  pub keys : List Key
  pub layout : IsLayout (table_of u) own keys
  pub reached : AreReached (table_of u) own keys
  pub function : FunctionContent
  pub before : function_at u.functions own ≡ Some function
  pub keyed : key_of g ≡ own
  pub content : g ≡ linked_function u own keys function
  pub visits : VisitsSame (table_of u) own keys g.instructions

-- The keys of programs.
abbrev pub program_keys : List (List ℕ × ProgramContent) → List Key
program_keys programs = map (λ e. (e.1.section_index, e.1.address)) programs

-- The function of a key in a list of functions is linked.
abbrev pub IsLinkedIn : Unlinked → List (Key × FunctionContent) → Key → Type 0
IsLinkedIn u new key = (g : FunctionContent) × ((function_at new key ≡ Some g) × IsLinked u key g)

-- The functions of some keys are linked from the functions before. All other functions and the keys
-- are unchanged.
pub record AreLinked (u : Unlinked) (keys : List Key) (new : List (Key × FunctionContent))
    : Type 0 where
  pub stay : keys_of new ≡ keys_of u.functions
  pub programs : (key : Key) → has keys key ≡ true → IsLinkedIn u new key
  pub others : (key : Key)
      → has keys key ≡ false
      → function_at new key ≡ function_at u.functions key

-- Each program can be linked.
abbrev pub AllCanBeLinked : Unlinked → List Key → Type 0
AllCanBeLinked u [] = Unit {0}
AllCanBeLinked u (k ∷ ks) = CanBeLinked u k × AllCanBeLinked u ks

-- A fault of a program, with the program's name.
abbrev pub HasFaultOf : Unlinked
    → List (List ℕ × ProgramContent)
    → Option (List ℕ)
    → RelocationError
    → Type 0
HasFaultOf u [] name e = ⊥
HasFaultOf u (p ∷ ps) name e =
    ((name ≡ Some p.0) × HasLinkFault u (p.1.section_index, p.1.address) e) ⊎ HasFaultOf u ps name e

-- The object that programs are linked from.
abbrev pub unlinked : List ℕ → List ℕ → List (Key × FunctionContent) → Unlinked
unlinked file text_sections functions = record {
  file = file;
  text_sections = text_sections;
  functions = functions;
}

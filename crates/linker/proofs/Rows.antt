-- Worked records, computed: a program of two slots, to which a function of two slots is linked.
use Rattle.std.proofs.Common.{◌≡◌, ℕ, List, [], ◌∷◌, refl, pos, negsuc, true, false}
use Rattle.btf_ext.specs.declared.record.bpf_func_info.{bpf_func_info}
use Rattle.btf_ext.specs.declared.record.bpf_line_info.{bpf_line_info}
use Rattle.ebpf_items.specs.declared.instruction.bpf_insn.{bpf_insn}
use Rattle.object_parts.specs.Content.{FunctionContent}
use Rattle.linker.specs.Unlinked.{Unlinked, table_of}
use Rattle.linker.specs.Records.{functions_of, goes_back, lines_of, mismatches}

abbrev call : bpf_insn
call = record { code = 133; registers = 16; off = pos 0; imm = negsuc 0 }

abbrev exit : bpf_insn
exit = record { code = 149; registers = 0; off = pos 0; imm = pos 0 }

abbrev line : ℕ → ℕ → ℕ → ℕ → bpf_line_info
line slot name text col = record { insn_off = slot; file_name_off = name; line_off = text; line_col = col }

abbrev function_of : ℕ → List bpf_insn → List bpf_func_info → List bpf_line_info → FunctionContent
function_of section slots functions lines = record {
  address = 0;
  name = [];
  section_index = section;
  section_offset = 0;
  instructions = slots;
  func_info = functions;
  line_info = lines;
  func_info_rec_size = 8;
  line_info_rec_size = 16;
  matched_tables = [];
}

abbrev main : FunctionContent
main = function_of 3 (call ∷ exit ∷ []) (record { insn_off = 0; type_id = 3 } ∷ []) (line 0 1 2 3 ∷ line 1 4 5 6 ∷ [])

abbrev add : FunctionContent
add = function_of 4 (exit ∷ exit ∷ []) (record { insn_off = 0; type_id = 5 } ∷ []) (line 0 1 2 3 ∷ line 1 4 5 6 ∷ [])

-- A function with a line record for its second slot only.
abbrev second : FunctionContent
second = function_of 4 (exit ∷ exit ∷ []) [] (line 1 4 5 6 ∷ [])

abbrev with_add : FunctionContent → Unlinked
with_add f = record { file = []; text_sections = []; functions = ((3, 0), main) ∷ ((4, 0), f) ∷ [] }

functions_moved : functions_of (with_add add) (3, 0) ((4, 0) ∷ []) ≡ record { insn_off = 0; type_id = 3 } ∷ record { insn_off = 2; type_id = 5 } ∷ []
unfolding table_of
functions_moved = refl

lines_moved : lines_of (with_add add) (3, 0) ((4, 0) ∷ []) ≡ line 0 1 2 3 ∷ line 1 4 5 6 ∷ line 2 1 2 3 ∷ line 3 4 5 6 ∷ []
unfolding table_of
lines_moved = refl

first_line_at_start : lines_of (with_add second) (3, 0) ((4, 0) ∷ []) ≡ line 0 1 2 3 ∷ line 1 4 5 6 ∷ line 2 4 5 6 ∷ []
unfolding table_of
first_line_at_start = refl

one_side_alone : mismatches main second ≡ true
one_side_alone = refl

both_sides : mismatches main add ≡ false
both_sides = refl

line_before_the_first : goes_back (line 1 4 5 6 ∷ line 0 1 2 3 ∷ []) ≡ true
line_before_the_first = refl

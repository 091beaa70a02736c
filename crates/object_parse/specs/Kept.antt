-- The records of its section that a function keeps.
use Rattle.std.specs.Prelude.{ℕ, ◌-◌, ◌==◌, ◌&&◌, nat_le, nat_lt, if◌then◌else◌, Bool, List, [], filter, map, unwrap_or}
use Rattle.btf_ext.specs.Extensions.{Extension}
use Rattle.btf_ext.specs.Names.{records_of}
use Rattle.btf_ext.specs.declared.record.bpf_func_info.{bpf_func_info}
use Rattle.btf_ext.specs.declared.record.bpf_line_info.{bpf_line_info}

-- The records of a section in an extension.
pub record SectionContent : Type 0 where
  pub functions : List bpf_func_info
  pub lines : List bpf_line_info

abbrev pub section_content : Extension → List ℕ → SectionContent
section_content extension name = record {
  functions = unwrap_or (records_of extension.strings name extension.functions) [];
  lines = unwrap_or (records_of extension.strings name extension.lines) [];
}

-- Whether a slot is one of a number of slots from a first one on.
abbrev pub is_within : ℕ → ℕ → ℕ → Bool
is_within start slots slot = nat_le start slot && nat_lt (slot - start) slots

-- A slot of the section, counted from a function's start or from the section's.
abbrev pub moved : Bool → ℕ → ℕ → ℕ
moved relative start slot = if relative then slot - start else slot

abbrev pub moved_function : Bool → ℕ → bpf_func_info → bpf_func_info
moved_function relative start r = record {
  insn_off = moved relative start r.insn_off;
  type_id = r.type_id;
}

abbrev pub moved_line : Bool → ℕ → bpf_line_info → bpf_line_info
moved_line relative start r = record {
  insn_off = moved relative start r.insn_off;
  file_name_off = r.file_name_off;
  line_off = r.line_off;
  line_col = r.line_col;
}

-- The function records at a function's first slot.
abbrev pub kept_functions : Bool → ℕ → List bpf_func_info → List bpf_func_info
kept_functions relative start records =
    map (moved_function relative start) (filter (λ r. r.insn_off == start) records)

-- The line records at a function's slots.
abbrev pub kept_lines : Bool → ℕ → ℕ → List bpf_line_info → List bpf_line_info
kept_lines relative start slots records =
    map (moved_line relative start) (filter (λ r. is_within start slots r.insn_off) records)

-- The programs of an object, and the functions of its program sections.
use Rattle.std.specs.Prelude.{ℕ, ◌+◌, ◌-◌, ◌/◌, ◌%◌, ◌==◌, ◌&&◌, ◌||◌, not, nat_lt, Bool, true, false, List, [], length, take, drop, fold, Option, Some, None, unwrap_or, is_some, is_none, option_and_then, if◌then◌else◌}
use Rattle.std.specs.BTreeMap.{insert_entry}
use Rattle.std.specs.Cmp.Lexicographic.{slice_cmp}
use Rattle.std.specs.Option.{option_map_or}
use Rattle.std.specs.Ordering.{nat_cmp}
use Rattle.elf64.specs.Sections.{Section}
use Rattle.elf64.specs.Symbols.{Symbol}
use Rattle.elf64.specs.declared.kind.SymbolKind.{SymbolKind}
use Rattle.elf64.specs.declared.kind.SymbolKind.TheVariants as symbol
use Rattle.ebpf_items.specs.Instruction.{slots_of}
use Rattle.object_parse.specs.Kept.{kept_functions, kept_lines}
use Rattle.object_file.specs.Kinds.{kind_of}
use Rattle.object_file.specs.Symbols.{symbols_in}
use Rattle.object_parts.specs.Content.{ProgramContent, FunctionContent, key_cmp}
use Rattle.object_parse.specs.SectionInfos.{SectionInfo}
use Rattle.program_kinds.specs.ProgramSection.{kind_of_name}
use Rattle.program_kinds.specs.declared.program_section.ProgramSection.{ProgramSection}
use Rattle.section_kinds.specs.declared.section_kind.EbpfSectionKind.{EbpfSectionKind}
use Rattle.section_kinds.specs.declared.section_kind.EbpfSectionKind.TheVariants as kind

abbrev pub is_program_kind : EbpfSectionKind → Bool
is_program_kind kind.Program = true
is_program_kind _ = false

abbrev pub is_program : Section → Bool
is_program section = is_some section.name && is_program_kind (kind_of section)

-- The kind of program that a section's name gives.
abbrev pub program_kind : Section → Option ProgramSection
program_kind section = option_and_then kind_of_name section.name

-- Whether a symbol is a function of a program section: it has kind Text and a nonempty name.
abbrev pub is_text_kind : SymbolKind → Bool
is_text_kind symbol.Text = true
is_text_kind _ = false

abbrev pub is_function : Symbol → Bool
is_function s = is_text_kind s.kind && option_map_or (λ name. not (length name == 0)) s.name false

-- The code of a symbol: st_size bytes of the section, from the offset st_value on. None if these
-- are no whole slots or go past the section's bytes, or if st_value is below the section's sh_addr.
abbrev pub code_in : List ℕ → ℕ → Symbol → Option (List ℕ)
code_in bytes address s =
    if nat_lt s.address address || nat_lt (length bytes) (s.address + s.size) || not
    (s.size % 8 == 0) then None
    else Some (take s.size (drop s.address bytes))

abbrev pub code_of : Section → Symbol → Option (List ℕ)
code_of section s = option_and_then (λ bytes. code_in bytes section.address s) section.contents

-- Whether a function has no code in the section's bytes.
abbrev pub lacks_code : Section → Symbol → Bool
lacks_code section s =
    option_map_or (λ bytes. is_none (code_in bytes section.address s)) section.contents false

abbrev pub has_no_code : Section → Symbol → Bool
has_no_code section s = is_function s && lacks_code section s

-- The slot of the section at which a function begins.
abbrev pub first_slot : Section → Symbol → ℕ
first_slot section s = (s.address - section.address) / 8

-- The function of a program section that is inserted. Its records are counted from its first slot.
abbrev pub program_of : List ℕ → Option ℕ → Section → ProgramSection → Symbol → ProgramContent
program_of license version section kind s = record {
  license = license;
  kernel_version = version;
  section = kind;
  section_index = section.index;
  address = s.address;
}

abbrev pub function_of : SectionInfo → Section → Symbol → FunctionContent
function_of info section s = record {
  address = s.address;
  name = unwrap_or s.name [];
  section_index = section.index;
  section_offset = s.address;
  instructions = slots_of (unwrap_or (code_of section s) []);
  func_info = kept_functions true (first_slot section s) info.functions;
  line_info = kept_lines true (first_slot section s) (s.size / 8) info.lines;
  func_info_rec_size = info.func_size;
  line_info_rec_size = info.line_size;
  matched_tables = [];
}

-- The programs after an insertion, which replaces a program of the same name.
abbrev pub with_program : List ℕ
    → Option ℕ
    → Section
    → ProgramSection
    → List (List ℕ × ProgramContent)
    → Symbol
    → List (List ℕ × ProgramContent)
with_program license version section kind programs s =
    if is_function s
    then insert_entry (slice_cmp nat_cmp) programs (unwrap_or s.name [])
    (program_of license version section kind s)
    else programs

-- The functions after an insertion, which replaces a function of the same key.
abbrev pub with_function : SectionInfo
    → Section
    → List ((ℕ × ℕ) × FunctionContent)
    → Symbol
    → List ((ℕ × ℕ) × FunctionContent)
with_function info section functions s =
    if is_function s
    then insert_entry key_cmp functions (section.index, s.address) (function_of info section s)
    else functions

-- The programs and functions after the insertions of one more program section, ordered by symbol.
abbrev pub with_programs : List ℕ
    → Option ℕ
    → List Symbol
    → List (List ℕ × ProgramContent)
    → Section
    → List (List ℕ × ProgramContent)
with_programs license version symbols programs section =
    option_map_or (λ kind.
    fold (with_program license version section kind) programs (symbols_in symbols section.index))
    (program_kind section) programs

abbrev pub with_program_functions : SectionInfo
    → List Symbol
    → List ((ℕ × ℕ) × FunctionContent)
    → Section
    → List ((ℕ × ℕ) × FunctionContent)
with_program_functions info symbols functions section =
    fold (with_function info section) functions (symbols_in symbols section.index)

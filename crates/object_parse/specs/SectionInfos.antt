-- The records of the functions of a section in the object's extension.
use Rattle.std.specs.Prelude.{ℕ, List, [], Option, unwrap_or}
use Rattle.std.specs.Option.{option_map_or}
use Rattle.btf_ext.specs.Extensions.{Extension}
use Rattle.btf_ext.specs.declared.record.bpf_func_info.{bpf_func_info}
use Rattle.btf_ext.specs.declared.record.bpf_line_info.{bpf_line_info}
use Rattle.elf64.specs.Sections.{Section}
use Rattle.object_parse.specs.Kept.{section_content}

-- Function and line records, and their sizes in bytes.
pub record SectionInfo : Type 0 where
  pub functions : List bpf_func_info
  pub lines : List bpf_line_info
  pub func_size : ℕ
  pub line_size : ℕ

abbrev pub no_info : SectionInfo
no_info = record { functions = []; lines = []; func_size = 0; line_size = 0 }

abbrev pub named_info : List ℕ → Extension → SectionInfo
named_info name extension = record {
  functions = (section_content extension name).functions;
  lines = (section_content extension name).lines;
  func_size = extension.func_size;
  line_size = extension.line_size;
}

-- The records of the sections of a name.
abbrev pub info_named : Option Extension → List ℕ → SectionInfo
info_named extension name = option_map_or (named_info name) extension no_info

abbrev pub info_of : Option Extension → Section → SectionInfo
info_of extension section = info_named extension (unwrap_or section.name [])

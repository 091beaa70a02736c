-- The programs and functions of a file.
use Rattle.std.specs.Prelude.{ℕ, List, [], fold, Option, if◌then◌else◌}
use Rattle.btf_ext.specs.Extensions.{Extension}
use Rattle.elf64.specs.Sections.{Section}
use Rattle.elf64.specs.Symbols.{Symbol, symbols_of}
use Rattle.object_file.specs.License.{license_of}
use Rattle.object_file.specs.Reading.{read_sections}
use Rattle.object_file.specs.Version.{version_of}
use Rattle.object_parts.specs.Content.{ProgramContent, FunctionContent}
use Rattle.object_parse.specs.Programs.{is_program, with_programs, with_program_functions}
use Rattle.object_parse.specs.SectionInfos.{info_of}
use Rattle.object_parse.specs.TextSections.{is_text_section, with_text_functions}

-- The programs after the insertions of one more section.
abbrev pub with_section_programs : List ℕ
    → Option ℕ
    → List Symbol
    → List (List ℕ × ProgramContent)
    → Section
    → List (List ℕ × ProgramContent)
with_section_programs license version symbols programs section =
    if is_program section then with_programs license version symbols programs section else programs

-- The programs by name. Of several with one name, the last one counts.
abbrev pub programs_of : List ℕ → List (List ℕ × ProgramContent)
programs_of file =
    fold (with_section_programs (license_of file) (version_of file) (symbols_of file)) []
    (read_sections file)

-- The functions after the insertions of one more section.
abbrev pub with_functions : Option Extension
    → List Symbol
    → List ((ℕ × ℕ) × FunctionContent)
    → Section
    → List ((ℕ × ℕ) × FunctionContent)
with_functions extension symbols functions section =
    if is_program section then with_program_functions (info_of extension section) symbols functions
    section
    else
    (if is_text_section section
    then with_text_functions (info_of extension section) symbols functions section
    else functions)

-- The functions by key. Of several with one key, the last one counts.
abbrev pub functions_of : List ℕ → Option Extension → List ((ℕ × ℕ) × FunctionContent)
functions_of file extension =
    fold (with_functions extension (symbols_of file)) [] (read_sections file)

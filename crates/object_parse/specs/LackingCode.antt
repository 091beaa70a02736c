-- Functions without code, which their error doesn't name.
use Rattle.std.specs.Prelude.{ℕ, List, [], ◌∷◌, find, ◌==◌, Option, None, Some, unwrap_or, option_and_then, if◌then◌else◌}
use Rattle.std.specs.Option.{option_map_or}
use Rattle.elf64.specs.Sections.{Section}
use Rattle.elf64.specs.Symbols.{Symbol, symbols_of}
use Rattle.object_file.specs.Reading.{read_sections}
use Rattle.object_file.specs.Symbols.{symbols_in}
use Rattle.object_parse.specs.Programs.{has_no_code, is_program}

-- The first function without code of a section, if it is a program section.
abbrev pub function_without_code_in : List ℕ → Section → Option Symbol
function_without_code_in file section =
    if is_program section
    then find (has_no_code section) (symbols_in (symbols_of file) section.index)
    else None

-- The first such function of some sections: the index and the name of its section, and its name.
abbrev pub first_without_code : List ℕ → List Section → Option (ℕ × List ℕ × List ℕ)
first_without_code file [] = None
first_without_code file (section ∷ sections) =
    option_map_or (λ s. Some (section.index, unwrap_or section.name [], unwrap_or s.name []))
    (function_without_code_in file section) (first_without_code file sections)

abbrev pub place_without_code : List ℕ → Option (ℕ × List ℕ × List ℕ)
place_without_code file = first_without_code file (read_sections file)

-- The name of the section of an index. Empty if there is none.
abbrev pub name_at : List ℕ → ℕ → List ℕ
name_at file index =
    unwrap_or (option_and_then (λ s. s.name) (find (λ s. s.index == index) (read_sections file))) []

-- The symbols of a file, by section and by name.
use Rattle.std.specs.Prelude.{ℕ, List, filter, find, is_none, reverse, ◌==◌, Bool, false, Option}
use Rattle.std.specs.Option.{option_map, option_map_or}
use Rattle.std.specs.Str.{bytes_eq}
use Rattle.elf64.specs.Symbols.{Symbol, symbols_of}

-- Whether a symbol is in the section of an index.
abbrev pub is_in : ℕ → Symbol → Bool
is_in index s = option_map_or (λ i. i == index) s.section_index false

-- The symbols in the section of an index, in order.
abbrev pub symbols_in : List Symbol → ℕ → List Symbol
symbols_in symbols index = filter (is_in index) symbols

-- Whether a symbol has a name.
abbrev pub is_named : List ℕ → Symbol → Bool
is_named name s = option_map_or (λ text. bytes_eq text name) s.name false

-- The first symbol with a name, in order of index.
abbrev pub first_named : List Symbol → List ℕ → Option Symbol
first_named symbols name = find (is_named name) symbols

-- The last symbol with a name, in order of index.
abbrev pub last_named : List Symbol → List ℕ → Option Symbol
last_named symbols name = find (is_named name) (reverse symbols)

-- Whether the name of a symbol can't be read.
abbrev pub is_unnamed : Symbol → Bool
is_unnamed s = is_none s.name

-- The index of the first symbol whose name can't be read.
abbrev pub unnamed_symbol : List ℕ → Option ℕ
unnamed_symbol file = option_map (λ s. s.index) (find is_unnamed (symbols_of file))

-- The symbol of an index in the symbol table.
abbrev pub symbol_at : List ℕ → ℕ → Option Symbol
symbol_at file index = find (λ s. s.index == index) (symbols_of file)

-- Symbols in order and by section.
use Rattle.std.specs.Prelude.{◌≡◌, ℕ, List, [], ◌∷◌, ◌++◌, if◌then◌else◌}
use Rattle.std.specs.Option.{option_map_or}
use Rattle.std.specs.BTreeMap.{get}
use Rattle.std.specs.Ordering.{nat_cmp}
use Rattle.elf64.specs.Symbols.{Symbol}
use Rattle.object_file.specs.Symbols.{is_in, symbols_in}
use Rattle.object_file.specs.declared.symbols.SymbolTable.{SymbolTable}

-- The symbols that a table has for a section.
abbrev pub symbols_at : SymbolTable → ℕ → List Symbol
symbols_at table index = option_map_or (λ v. v.items) (get nat_cmp table.by_section index) []

-- The table has these symbols, and for each section the symbols in it.
pub record AreSymbolsOf (table : SymbolTable) (symbols : List Symbol) : Type 0 where
  pub all : table.all.items ≡ symbols
  pub at : (index : ℕ) → symbols_at table index ≡ symbols_in symbols index

-- The symbol is appended to all symbols, and to the symbols of its section.
pub record AddsSymbol (old new : SymbolTable) (symbol : Symbol) : Type 0 where
  pub all : new.all.items ≡ old.all.items ++ symbol ∷ []
  pub at : (i : ℕ)
      → symbols_at new i ≡ symbols_at old i ++ (if is_in i symbol then symbol ∷ [] else [])

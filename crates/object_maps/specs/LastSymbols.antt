-- The last symbols of their names.
use Rattle.std.specs.Prelude.{◌≡◌, ℕ, List, Option, Some, if◌then◌else◌}
use Rattle.std.specs.Borrow.{Bor}
use Rattle.std.specs.BTreeMap.{get_by}
use Rattle.std.specs.Cmp.Lexicographic.{slice_cmp}
use Rattle.std.specs.Option.{option_map}
use Rattle.std.specs.Ordering.{nat_cmp}
use Rattle.std.specs.declared.alloc.Global.{Global}
use Rattle.std.specs.declared.collections.BTreeMap.{BTreeMap}
use Rattle.elf64.specs.Symbols.{Symbol}
use Rattle.object_file.specs.Symbols.{is_named, last_named}

abbrev pub ByName : Type 0
ByName = BTreeMap (Bor (List ℕ)) (Bor Symbol) Global

-- The symbol that is entered under a name.
abbrev pub symbol_of : ByName → List ℕ → Option (Bor Symbol)
symbol_of by_name name = get_by (λ key. slice_cmp nat_cmp name key.now) by_name

-- The symbol is entered under its name, and replaces an earlier one.
pub record IsEntered (old new : ByName) (symbol : Bor Symbol) : Type 0 where
  pub at : (name : List ℕ)
      → symbol_of new name
      ≡ (if is_named name symbol.now then Some symbol else symbol_of old name)

-- Under each name the last symbol of the name is entered.
pub record AreLast (symbols : List Symbol) (by_name : ByName) : Type 0 where
  pub at : (name : List ℕ)
      → option_map (λ s. s.now) (symbol_of by_name name) ≡ last_named symbols name

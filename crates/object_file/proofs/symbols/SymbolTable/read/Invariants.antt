use Rattle.std.proofs.Common.{◌≡◌, ℕ, ◌++◌, []}
use Rattle.std.specs.List.{list_any}
use Rattle.std.specs.Option.{option_map_or}
use Rattle.std.specs.BTreeMap.{get}
use Rattle.std.specs.Ordering.{nat_cmp}
use Rattle.elf64.specs.Symbols.{symbols_of}
use Rattle.object_file.specs.Symbols.{is_unnamed, symbols_in}
use Rattle.object_file.proofs.symbols.SymbolTable.read.Given as goal

-- The symbols of the table and the remaining ones are all symbols, overall and for each section.
abbrev pub invariant-loop-view : goal.invariant-loop-view
invariant-loop-view l = record {
  all : l.table.all.items ++ l.view-iterator ≡ symbols_of l.elf;
  at : (index : ℕ) → option_map_or (λ v. v.items) (get nat_cmp l.table.by_section index) [] ++ symbols_in l.view-iterator index ≡ symbols_in (symbols_of l.elf) index;
  read : list_any is_unnamed l.view-iterator ≡ list_any is_unnamed (symbols_of l.elf);
}

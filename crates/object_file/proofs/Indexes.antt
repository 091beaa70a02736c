-- The symbols of a file are listed in order of index, starting with index 1.
use Rattle.std.proofs.Common.{◌≡◌, ℕ, zero, suc, ◌+◌, ◌-◌, ◌<◌, ◌≤◌, ◌/◌, ◌==◌, true, false, List, [], ◌∷◌, map, length, Option, Some, None, refl, sym, ◌∙◌, arith}
use Rattle.std.proofs.lemmas.Bool.Decides.{nat_tests}
use Rattle.std.specs.Prelude.{find, slice_get, unwrap_or, option_and_then}
use Rattle.std.specs.Option.{option_map}
use Rattle.std.specs.List.{range_with_len}
use Rattle.elf64.specs.Symbols.{Symbol, symbols_of, symbols_in, symbols_from, symbol_from, symbol_entry, symbol_table_index, symbol_entries_in, symbol_names_in}
use Rattle.elf64.specs.Headers.{header_of, table_in, section_header}
use Rattle.elf64.specs.declared.header.SymbolEntry.{SymbolEntry}
use Rattle.object_file.specs.Symbols.{symbol_at}

-- Looking up a symbol by its position in the list agrees with looking it up by its index. No symbol
-- has index 0.
pub record StandByIndex (symbols : List Symbol) : Type 0 where
  pub none : find (λ s. s.index == 0) symbols ≡ None
  pub at : (place : ℕ) → slice_get symbols place ≡ find (λ s. s.index == suc place) symbols

step : (f : ℕ → Symbol) → ((i : ℕ) → (f i).index ≡ i) → (a m : ℕ) (rest : List Symbol) → a < m → find (λ s. s.index == m) (f a ∷ rest) ≡ find (λ s. s.index == m) rest
step f indexed a m rest below =
    let other : ((f a).index == m) ≡ false = rw (indexed a) (grind (arith, nat_tests)) in
    rw other refl

found : (f : ℕ → Symbol) → ((i : ℕ) → (f i).index ≡ i) → (a m : ℕ) (rest : List Symbol) → a ≡ m → find (λ s. s.index == m) (f a ∷ rest) ≡ Some (f a)
found f indexed a m rest is =
    let same : ((f a).index == m) ≡ true = rw (indexed a) (grind (arith, nat_tests)) in
    rw same refl

at-range : (f : ℕ → Symbol) → ((i : ℕ) → (f i).index ≡ i) → (a n place m : ℕ) → m ≡ a + place → slice_get (map f (range_with_len a n)) place ≡ find (λ s. s.index == m) (map f (range_with_len a n))
at-range f indexed a zero place m is = refl
at-range f indexed a (suc n) zero m is = sym (found f indexed a m (map f (range_with_len (a + 1) n)) (omega arith))
at-range f indexed a (suc n) (suc place) m is =
    at-range f indexed (a + 1) n place m (omega arith)
    ∙ sym (step f indexed a m (map f (range_with_len (a + 1) n)) (omega arith))

none-below : (f : ℕ → Symbol) → ((i : ℕ) → (f i).index ≡ i) → (a n : ℕ) → 0 < a → find (λ s. s.index == 0) (map f (range_with_len a n)) ≡ None
none-below f indexed a zero positive = refl
none-below f indexed a (suc n) positive =
    let other : ((f a).index == 0) ≡ false = rw (indexed a) (grind (arith, nat_tests)) in
    rw other (none-below f indexed (a + 1) n (omega arith))

by-range : (f : ℕ → Symbol) → ((i : ℕ) → (f i).index ≡ i) → (n : ℕ) → StandByIndex (map f (range_with_len 1 n))
by-range f indexed n = record { none = none-below f indexed 1 n (omega arith); at = λ place. at-range f indexed 1 n place (suc place) (omega arith) }

no-symbols : StandByIndex []
no-symbols = record { none = refl; at = λ place. refl }

indexed-from : (names : Option (List ℕ)) (entry : ℕ → SymbolEntry) (i : ℕ) → (symbol_from names i (entry i)).index ≡ i
unfolding symbol_from
indexed-from names entry i = refl

by-table : (found : Option ℕ) (symbols : ℕ → List Symbol) → ((i : ℕ) → StandByIndex (symbols i)) → StandByIndex (unwrap_or (option_map symbols found) [])
by-table None symbols each = no-symbols
by-table (Some i) symbols each = each i

by-headers : {H : Type 0} (header : Option H) (table : H → Option (List ℕ)) (symbols : H → List ℕ → List Symbol) → ((h : H) (t : List ℕ) → StandByIndex (symbols h t)) → StandByIndex (unwrap_or (option_and_then (λ h. option_map (symbols h) (table h)) header) [])
by-headers None table symbols each = no-symbols
by-headers {H} (Some h) table symbols each = by-it (table h)
  where
    by-it : (t : Option (List ℕ)) → StandByIndex (unwrap_or (option_map (symbols h) t) [])
    by-it None = no-symbols
    by-it (Some t) = each h t

pub stand_by_index : (file : List ℕ) → StandByIndex (symbols_of file)
unfolding symbols_of
stand_by_index file =
    by-headers (header_of file) (table_in file) (λ h. symbols_in file h.order)
    (λ h t. by-table (symbol_table_index h.order t) (λ i. symbols_from file h.order t (section_header h.order t i))
    (λ i. by-range (λ j. symbol_from (symbol_names_in file h.order t (section_header h.order t i)) j (symbol_entry h.order (symbol_entries_in file (section_header h.order t i)) j))
    (indexed-from (symbol_names_in file h.order t (section_header h.order t i)) (symbol_entry h.order (symbol_entries_in file (section_header h.order t i))))
    (length (symbol_entries_in file (section_header h.order t i)) / 24 - 1)))

-- The symbol at a position of the list is the symbol of the next index.
pub place_of_index : (file : List ℕ) (place index : ℕ) → suc place ≡ index → slice_get (symbols_of file) place ≡ symbol_at file index
place_of_index file place index is = rw (sym is) ((stand_by_index file).at place)

zero-if : (n : ℕ) → (1 ≤ n → ⊥) → n ≡ 0
zero-if zero below = refl
zero-if (suc n) below = absurd (below (omega arith))

pub no_symbol_0 : (file : List ℕ) (index : ℕ) → (1 ≤ index → ⊥) → None ≡ symbol_at file index
no_symbol_0 file index below = rw (zero-if index below) (sym (stand_by_index file).none)

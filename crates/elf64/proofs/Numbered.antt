-- The sections and the symbols of a file are numbered from 1 on.
use Rattle.std.proofs.Common.{◌≡◌, ℕ, zero, suc, ◌+◌, List, [], refl, ◌∙◌, arith, Some, None}
use Rattle.std.specs.Prelude.{map, slice_get, Option, unwrap_or, option_and_then}
use Rattle.std.specs.Option.{option_map}
use Rattle.std.specs.List.{range_with_len}
use Rattle.elf64.specs.declared.header.SectionHeader.{SectionHeader}
use Rattle.elf64.specs.declared.header.SymbolEntry.{SymbolEntry}
use Rattle.elf64.specs.Headers.{AreNumbered, header_of, table_in, section_header}
use Rattle.elf64.specs.Sections.{section_from, sections_in, sections_of, section_names_in}
use Rattle.elf64.specs.Symbols.{symbol_from, symbol_table_index, symbols_from, symbols_in, symbols_of}

-- The items made from a range of indexes have the indexes of the range.
index_of-range : {X : Type 0} (f : ℕ → X) (index_of : X → ℕ) → ((i : ℕ) → index_of (f i) ≡ i) → (a n i : ℕ) (item : X) → slice_get (map f (range_with_len a n)) i ≡ Some item → index_of item ≡ a + i
index_of-range f index_of same a zero i item found = cc
index_of-range f index_of same a (suc n) zero item found =
    let first : f a ≡ item = cc in
    let at_first = same a in
    rw first at at_first ∙ omega arith
index_of-range f index_of same a (suc n) (suc i) item found =
    index_of-range f index_of same (a + 1) n i item found ∙ omega arith

AreNumbered-range : {X : Type 0} (f : ℕ → X) (index_of : X → ℕ) → ((i : ℕ) → index_of (f i) ≡ i) → (n : ℕ) → AreNumbered (map f (range_with_len 1 n)) index_of
AreNumbered-range f index_of same n =
    record { numbered = λ i item found. index_of-range f index_of same 1 n i item found ∙ omega arith }

AreNumbered-unwrap_or : {A X : Type 0} (g : A → List X) (index_of : X → ℕ) → ((a : A) → AreNumbered (g a) index_of) → (o : Option A) → AreNumbered (unwrap_or (option_map g o) []) index_of
AreNumbered-unwrap_or g index_of all None = record { numbered = λ i item found. cc }
AreNumbered-unwrap_or g index_of all (Some a) = all a

AreNumbered-chain : {A B X : Type 0} (h : A → Option B) (g : A → B → List X) (index_of : X → ℕ) → ((a : A) (b : B) → AreNumbered (g a b) index_of) → (o : Option A) → AreNumbered (unwrap_or (option_and_then (λ a. option_map (g a) (h a)) o) []) index_of
AreNumbered-chain h g index_of all None = record { numbered = λ i item found. cc }
AreNumbered-chain h g index_of all (Some a) = AreNumbered-unwrap_or (g a) index_of (all a) (h a)

section_from-index : (bytes : List ℕ) (names : Option (List ℕ)) (i : ℕ) (header : SectionHeader) → (section_from bytes names i header).index ≡ i
unfolding section_from
section_from-index bytes names i header = refl

symbol_from-index : (names : Option (List ℕ)) (i : ℕ) (entry : SymbolEntry) → (symbol_from names i entry).index ≡ i
unfolding symbol_from
symbol_from-index names i entry = refl

pub sections_of-AreNumbered : (bytes : List ℕ) → AreNumbered (sections_of bytes) (λ s. s.index)
unfolding sections_of
sections_of-AreNumbered bytes =
    AreNumbered-chain (table_in bytes) (λ header table. sections_in bytes header table) (λ s. s.index)
    (λ header table. AreNumbered-range _ (λ s. s.index) (λ i. section_from-index bytes (section_names_in bytes header table) i (section_header header.order table i)) _)
    (header_of bytes)

pub symbols_of-AreNumbered : (bytes : List ℕ) → AreNumbered (symbols_of bytes) (λ s. s.index)
unfolding symbols_of
symbols_of-AreNumbered bytes =
    AreNumbered-chain (table_in bytes) (λ header table. symbols_in bytes header.order table) (λ s. s.index)
    (λ header table. AreNumbered-unwrap_or (λ i. symbols_from bytes header.order table (section_header header.order table i)) (λ s. s.index)
    (λ t. AreNumbered-range _ (λ s. s.index) (λ i. symbol_from-index _ i _) _)
    (symbol_table_index header.order table))
    (header_of bytes)

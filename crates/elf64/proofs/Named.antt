-- The names of sections and symbols are the texts at their name offsets.
use Rattle.std.proofs.Common.{◌≡◌, ℕ, List, [], ◌∷◌, refl, Some, None}
use Rattle.std.specs.Prelude.{map, Option, unwrap_or, option_and_then}
use Rattle.std.specs.Option.{option_map}
use Rattle.elf64.specs.declared.header.SectionHeader.{SectionHeader}
use Rattle.elf64.specs.declared.header.SymbolEntry.{SymbolEntry}
use Rattle.elf64.specs.Headers.{header_of, table_in, section_header, section_indexes}
use Rattle.elf64.specs.Names.{name_in, AreNamed}
use Rattle.elf64.specs.Sections.{section_from, section_names_in, section_names_of, sections_in, sections_of}
use Rattle.elf64.specs.Symbols.{symbol_from, symbol_names_in, symbol_names_for, symbol_names_of, symbol_table_index, symbols_from, symbols_in, symbols_of}

named-map : {A X : Type 0} (strings : Option (List ℕ)) (f : A → X) (name_of : X → Option (List ℕ)) (offset_of : X → ℕ) → ((a : A) → name_of (f a) ≡ name_in strings (offset_of (f a))) → (xs : List A) → map name_of (map f xs) ≡ map (λ x. name_in strings (offset_of x)) (map f xs)
named-map strings f name_of offset_of same [] = refl
named-map strings f name_of offset_of same (x ∷ xs) = rw (same x, named-map strings f name_of offset_of same xs) refl

named-unwrap_or : {A X : Type 0} (strings : A → Option (List ℕ)) (g : A → List X) (name_of : X → Option (List ℕ)) (offset_of : X → ℕ) → ((a : A) → AreNamed (strings a) (g a) name_of offset_of) → (o : Option A) → AreNamed (option_and_then strings o) (unwrap_or (option_map g o) []) name_of offset_of
named-unwrap_or strings g name_of offset_of all None = record { named = refl }
named-unwrap_or strings g name_of offset_of all (Some a) = all a

named-chain : {A B X : Type 0} (h : A → Option B) (strings : A → B → Option (List ℕ)) (g : A → B → List X) (name_of : X → Option (List ℕ)) (offset_of : X → ℕ) → ((a : A) (b : B) → AreNamed (strings a b) (g a b) name_of offset_of) → (o : Option A) → AreNamed (option_and_then (λ a. option_and_then (strings a) (h a)) o) (unwrap_or (option_and_then (λ a. option_map (g a) (h a)) o) []) name_of offset_of
named-chain h strings g name_of offset_of all None = record { named = refl }
named-chain h strings g name_of offset_of all (Some a) = named-unwrap_or (strings a) (g a) name_of offset_of (all a) (h a)

section_from-name : (bytes : List ℕ) (names : Option (List ℕ)) (i : ℕ) (header : SectionHeader) → (section_from bytes names i header).name ≡ name_in names (section_from bytes names i header).name_offset
unfolding section_from
section_from-name bytes names i header = refl

symbol_from-name : (names : Option (List ℕ)) (i : ℕ) (entry : SymbolEntry) → (symbol_from names i entry).name ≡ name_in names (symbol_from names i entry).name_offset
unfolding symbol_from
symbol_from-name names i entry = refl

pub sections_of-AreNamed : (bytes : List ℕ) → AreNamed (section_names_of bytes) (sections_of bytes) (λ s. s.name) (λ s. s.name_offset)
unfolding sections_of section_names_of
sections_of-AreNamed bytes =
    named-chain (table_in bytes) (λ header table. section_names_in bytes header table) (λ header table. sections_in bytes header table) (λ s. s.name) (λ s. s.name_offset)
    (λ header table. record { named = named-map (section_names_in bytes header table) _ (λ s. s.name) (λ s. s.name_offset) (λ i. section_from-name bytes (section_names_in bytes header table) i (section_header header.order table i)) (section_indexes table) })
    (header_of bytes)

pub symbols_of-AreNamed : (bytes : List ℕ) → AreNamed (symbol_names_of bytes) (symbols_of bytes) (λ s. s.name) (λ s. s.name_offset)
unfolding symbols_of symbol_names_of
symbols_of-AreNamed bytes =
    named-chain (table_in bytes) (λ header table. symbol_names_for bytes header.order table) (λ header table. symbols_in bytes header.order table) (λ s. s.name) (λ s. s.name_offset)
    (λ header table. named-unwrap_or (λ i. symbol_names_in bytes header.order table (section_header header.order table i)) (λ i. symbols_from bytes header.order table (section_header header.order table i)) (λ s. s.name) (λ s. s.name_offset)
    (λ t. record { named = named-map (symbol_names_in bytes header.order table (section_header header.order table t)) _ (λ s. s.name) (λ s. s.name_offset) (λ i. symbol_from-name _ i _) _ })
    (symbol_table_index header.order table))
    (header_of bytes)

-- The faults of the program and `.text` sections of a file.
use Rattle.std.specs.Prelude.{◌≡◌, ℕ, ◌+◌, ◌%◌, ◌^◌, ◌==◌, ◌&&◌, ◌||◌, if◌then◌else◌, Bool, true, false, List, [], ◌∷◌, length, unwrap_or, is_none, Option}
use Rattle.std.specs.List.{list_any}
use Rattle.std.specs.Option.{option_map, option_map_or}
use Rattle.std.specs.String.{string_bytes}
use Rattle.ebpf_items.specs.declared.error.ParseError.{ParseError}
use Rattle.ebpf_items.specs.declared.error.ParseError.TheVariants as error
use Rattle.elf64.specs.Sections.{Section, has_name}
use Rattle.elf64.specs.Symbols.{Symbol}
use Rattle.object_file.specs.Symbols.{is_named, symbols_in}
use Rattle.object_parse.specs.Programs.{is_program, program_kind, has_no_code}
use Rattle.object_parse.specs.TextSections.{Place, function_addresses, has_code_at, has_unsound_place, is_text_section, places_of}

-- A program section whose name gives no kind of program.
abbrev pub is_invalid : Section → Bool
is_invalid section = is_program section && is_none (program_kind section)

-- A program section without symbols.
abbrev pub has_no_symbols : List Symbol → Section → Bool
has_no_symbols symbols section =
    is_program section && (length (symbols_in symbols section.index) == 0)

-- A program section with a function without code.
abbrev pub has_function_without_code : List Symbol → Section → Bool
has_function_without_code symbols section =
    is_program section && list_any (has_no_code section) (symbols_in symbols section.index)

-- Whether an address is repeated.
abbrev pub repeats : ℕ → List ℕ → Bool
repeats address [] = false
repeats address (a ∷ rest) =
    ((a == address) && list_any (λ b. b == address) rest) || repeats address rest

-- No address is repeated.
pub record AreDistinct (addresses : List ℕ) : Type 0 where
  pub none : (address : ℕ) → repeats address addresses ≡ false

-- A `.text` section with two functions at an address.
abbrev pub has_conflict : List Symbol → ℕ → Section → Bool
has_conflict symbols address section =
    is_text_section section
    && repeats address (function_addresses (symbols_in symbols section.index))

-- A place at which no function begins. Its address is a 64-bit number, as in the file.
abbrev pub is_unknown : Section → ℕ → Place → Bool
is_unknown section address place =
    is_none place.symbol && ((section.address + place.offset) % 2 ^ 64 == address)

-- A place at which a function of size 0 begins, with its symbol.
abbrev pub is_empty_symbol : ℕ → Option (List ℕ) → Symbol → Bool
is_empty_symbol index name s =
    (s.index == index) && (s.size == 0) && option_map_or (λ n. is_named n s) name false

abbrev pub is_empty : ℕ → Option (List ℕ) → Place → Bool
is_empty index name place = option_map_or (is_empty_symbol index name) place.symbol false

-- A place with a function that goes past the section's bytes, or isn't whole slots.
abbrev pub is_cut : ℕ → Place → Bool
is_cut len place =
    option_map_or (λ s. if has_code_at len place.offset s then false else true) place.symbol false

-- A `.text` section with such a place.
abbrev pub has_place : (Section → Place → Bool) → List Symbol → Section → Bool
has_place here symbols section =
    is_text_section section && list_any (here section) (places_of symbols section)

abbrev pub has_cut_function : List Symbol → Section → Bool
has_cut_function symbols section =
    has_place (λ s. is_cut (length (unwrap_or s.contents []))) symbols section

-- A `.text` section with a place at which no function with code begins.
abbrev pub has_gap : List Symbol → Section → Bool
has_gap symbols section = is_text_section section && has_unsound_place symbols section

-- A fault of a place of a section.
abbrev pub PlaceFault : Section → Place → ParseError → Type 0
PlaceFault section place (error.UnknownSymbol index address) =
    (index ≡ section.index) × (is_unknown section address place ≡ true)
PlaceFault section place (error.InvalidSymbol index name) =
    is_empty index (option_map string_bytes name) place ≡ true
PlaceFault section place error.InvalidProgramCode =
    is_cut (length (unwrap_or section.contents [])) place ≡ true
PlaceFault section place _ = ⊥

-- A fault of some place of a section.
abbrev pub HasPlaceFault : List Symbol → Section → ParseError → Type 0
HasPlaceFault symbols section (error.UnknownSymbol index address) =
    (index ≡ section.index)
    × (list_any (is_unknown section address) (places_of symbols section) ≡ true)
HasPlaceFault symbols section (error.InvalidSymbol index name) =
    list_any (is_empty index (option_map string_bytes name)) (places_of symbols section) ≡ true
HasPlaceFault symbols section error.InvalidProgramCode =
    list_any (is_cut (length (unwrap_or section.contents []))) (places_of symbols section) ≡ true
HasPlaceFault symbols section _ = ⊥

-- A fault of a program or `.text` section.
abbrev pub HasSectionFault : List Symbol → Section → ParseError → Type 0
HasSectionFault symbols section (error.InvalidProgramSection name) =
    (has_name (string_bytes name) section && is_invalid section) ≡ true
HasSectionFault symbols section (error.NoSymbolsForSection name) =
    (has_name (string_bytes name) section && has_no_symbols symbols section) ≡ true
HasSectionFault symbols section error.InvalidProgramCode =
    (has_function_without_code symbols section || has_cut_function symbols section) ≡ true
HasSectionFault symbols section (error.SymbolTableConflict index address) =
    ((section.index == index) && has_conflict symbols address section) ≡ true
HasSectionFault symbols section (error.UnknownSymbol index address) =
    ((section.index == index) && has_place (λ s. is_unknown s address) symbols section) ≡ true
HasSectionFault symbols section (error.InvalidSymbol index name) =
    has_place (λ _. is_empty index (option_map string_bytes name)) symbols section ≡ true
HasSectionFault symbols section _ = ⊥

-- A section without a fault, by tests.
pub record IsSound (symbols : List Symbol) (section : Section) : Type 0 where
  pub valid : is_invalid section ≡ false
  pub with_symbols : has_no_symbols symbols section ≡ false
  pub with_code : has_function_without_code symbols section ≡ false
  pub distinct : (address : ℕ) → has_conflict symbols address section ≡ false
  pub tiled : has_gap symbols section ≡ false

-- A section without a fault.
pub record HasSoundCode (symbols : List Symbol) (section : Section) : Type 0 where
  pub none : (e : ParseError) → HasSectionFault symbols section e → ⊥

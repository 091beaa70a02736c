-- The functions of a `.text` section, inserted one by one.
use Rattle.std.specs.Prelude.{◌≡◌, ℕ, ◌+◌, ◌^◌, ◌≤◌, nat_lt, false, List, [], ◌∷◌, ◌++◌, length, fold, Option, None, unwrap_or, if◌then◌else◌}
use Rattle.std.specs.BTreeMap.{BTreeMap, get}
use Rattle.std.specs.List.{list_any}
use Rattle.std.specs.Option.{option_or}
use Rattle.std.specs.Ordering.{nat_cmp}
use Rattle.elf64.specs.Sections.{Section}
use Rattle.elf64.specs.Symbols.{Symbol}
use Rattle.object_file.specs.Symbols.{symbols_in}
use Rattle.object_parts.specs.Content.{FunctionContent}
use Rattle.object_parse.specs.SectionInfos.{SectionInfo}
use Rattle.object_parse.specs.TextSections.{Place, definition_of, is_unsound, places_from, places_of, with_text_function}

-- The symbols that define functions are found by address.
pub record AreDefinitionsOf (map : BTreeMap ℕ Symbol) (symbols : List Symbol) : Type 0 where
  pub at : (address : ℕ) → get nat_cmp map address ≡ definition_of symbols address

-- A symbol that defines a function is inserted if its address has none.
pub record AddsDefinition (old new : BTreeMap ℕ Symbol) (symbol : Symbol) : Type 0 where
  pub at : (address : ℕ)
      → get nat_cmp new address
      ≡ option_or (get nat_cmp old address) (definition_of (symbol ∷ []) address)

-- The symbol of an address in a map.
abbrev pub defined_in : BTreeMap ℕ Symbol → ℕ → Option Symbol
defined_in map address = if nat_lt address (2 ^ 64) then get nat_cmp map address else None

abbrev pub place_in : BTreeMap ℕ Symbol → ℕ → ℕ → Place
place_in map address offset = record { offset = offset; symbol = defined_in map (address + offset) }

-- The number of bytes of a section.
abbrev pub byte_count : Section → ℕ
byte_count section = length (unwrap_or section.contents [])

-- The functions at the places before an offset are inserted, and these places have no fault.
pub record AreEntered (info : SectionInfo) (symbols : List Symbol) (section : Section)
    (old new : List ((ℕ × ℕ) × FunctionContent)) (offset : ℕ) : Type 0 where
  pub steps : ℕ
  pub done : List Place
  pub enough : byte_count section ≤ offset + steps
  pub all : done
      ++ places_from steps (symbols_in symbols section.index) section.address (byte_count section)
      offset
      ≡ places_of symbols section
  pub functions : new ≡ fold (with_text_function info section) old done
  pub sound : list_any (is_unsound (byte_count section)) done ≡ false

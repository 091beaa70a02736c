-- Sections and symbols by name. Of several with the same name, the last one counts.
use Rattle.std.specs.Prelude.{◌≡◌, ℕ, List, find, reverse, ◌&&◌, ◌||◌, Bool, true, false, Option}
use Rattle.std.specs.BTreeMap.{is_at}
use Rattle.std.specs.Borrow.{Bor}
use Rattle.std.specs.Cmp.Lexicographic.{slice_cmp}
use Rattle.std.specs.Map.{lookup}
use Rattle.std.specs.Option.{option_map, option_map_or}
use Rattle.std.specs.Ordering.{nat_cmp}
use Rattle.std.specs.Str.{bytes_eq}
use Rattle.elf64.specs.Sections.{Section, has_name}
use Rattle.elf64.specs.Symbols.{Symbol}
use Rattle.elf64.specs.declared.kind.SymbolKind.{SymbolKind}
use Rattle.elf64.specs.declared.kind.SymbolKind.TheVariants as kinds

-- The number that is listed under a name.
abbrev pub number_under : List (Bor (List ℕ) × ℕ) → List ℕ → Option ℕ
number_under numbers name = lookup (is_at (λ key. slice_cmp nat_cmp name key.now)) numbers

abbrev pub last_section : List Section → List ℕ → Option Section
last_section sections name = find (has_name name) (reverse sections)

-- Each name has the size, or the index, of the last section with this name.
pub record AreSizes (sections : List Section) (sizes : List (Bor (List ℕ) × ℕ)) : Type 0 where
  pub at : (name : List ℕ)
      → number_under sizes name ≡ option_map (λ s. s.size) (last_section sections name)

pub record AreIndexes (sections : List Section) (indexes : List (Bor (List ℕ) × ℕ)) : Type 0 where
  pub at : (name : List ℕ)
      → number_under indexes name ≡ option_map (λ s. s.index) (last_section sections name)

abbrev pub is_named : List ℕ → Symbol → Bool
is_named name s = option_map_or (λ text. bytes_eq text name) s.name false

-- Whether a symbol is an object: STT_OBJECT or STT_COMMON.
abbrev pub is_object_kind : SymbolKind → Bool
is_object_kind kinds.Data = true
is_object_kind _ = false

-- Whether the offset of a symbol is listed under its name: the symbol isn't local, or is an object.
abbrev pub has_offset : Symbol → Bool
has_offset s = s.is_global || is_object_kind s.kind

abbrev pub last_symbol : List Symbol → List ℕ → Option Symbol
last_symbol symbols name = find (λ s. has_offset s && is_named name s) (reverse symbols)

-- Each name has the offset of the last listed symbol with this name.
pub record AreOffsets (symbols : List Symbol) (offsets : List (Bor (List ℕ) × ℕ)) : Type 0 where
  pub at : (name : List ℕ)
      → number_under offsets name ≡ option_map (λ s. s.address) (last_symbol symbols name)

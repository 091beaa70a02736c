-- The bytes of maps that the values of global variables leave as they are.
use Rattle.std.specs.Prelude.{◌≡◌, ℕ, ◌+◌, ◌<◌, ◌≤◌, All, List, None, Some, length, map, slice_get}
use Rattle.std.specs.Cmp.Lexicographic.{slice_cmp}
use Rattle.std.specs.List.{AllZip}
use Rattle.std.specs.List.Sorted.{IsStrictlySortedBy}
use Rattle.std.specs.Ordering.{nat_cmp}
use Rattle.ebpf_items.specs.Maps.{MapView}
use Rattle.elf64.specs.Symbols.{Symbol, symbols_of}
use Rattle.global_data.specs.GlobalData.{first_fault, map_of, patched}
use Rattle.object_file.specs.Symbols.{last_named}
use Rattle.settings.specs.ValuesContent.{GlobalContent}

-- An object's maps, and the values that are set for global variables.
abbrev pub Maps : Type 0
Maps = List (List ℕ × MapView)

abbrev pub Global : Type 0
Global = List ℕ × GlobalContent

-- The value of a global variable is written over a byte of a map: the variable's symbol is in the
-- map's section, and the index of the byte is in the symbol's range, which begins at its address
-- and has its size.
pub record IsPutOver (symbols : List Symbol) (maps : Maps) (name : List ℕ) (place : ℕ)
    (global : Global) : Type 0 where
  pub symbol : Symbol
  pub named : last_named symbols global.0 ≡ Some symbol
  pub map : MapView
  pub over : map_of maps symbol.section_index ≡ Some (name, map)
  pub begins : symbol.address ≤ place
  pub ends : place < symbol.address + symbol.size

-- None of the values is written over the byte.
abbrev pub IsOutside : List Symbol → Maps → List Global → List ℕ → ℕ → Type 0
IsOutside symbols maps globals name place =
    All (λ global. IsPutOver symbols maps name place global → ⊥) globals

-- A map keeps its name, its section and its number of bytes, and each byte at an index outside
-- some.
pub record Stays (Outside : List ℕ → ℕ → Type 0) (old new : List ℕ × MapView) : Type 0 where
  pub name : new.0 ≡ old.0
  pub section : new.1.section_index ≡ old.1.section_index
  pub sized : length new.1.contents ≡ length old.1.contents
  pub rest : (place : ℕ)
      → Outside old.0 place
      → slice_get new.1.contents place ≡ slice_get old.1.contents place

-- The maps stay, in order, with all bytes over which no value is written.
abbrev pub KeepBytes : List ℕ → List Global → Maps → Maps → Type 0
KeepBytes file globals old new = AllZip (Stays (IsOutside (symbols_of file) old globals)) old new

-- The values of global variables leave all other bytes as they are.
pub record ValuesLeaveBytes : Type 0 where
  pub each : (file : List ℕ) (maps : Maps) (globals : List Global)
      → IsStrictlySortedBy (slice_cmp nat_cmp) (map (λ e. e.0) maps)
      → first_fault file maps globals ≡ None
      → KeepBytes file globals maps (patched file maps globals)

-- Relocations without a symbol, and relocations by offset.
use Rattle.std.specs.Prelude.{ℕ, List, [], Bool, is_none, fold, find, reverse, ◌==◌, Option}
use Rattle.std.specs.BTreeMap.{insert_entry, is_at}
use Rattle.std.specs.List.{list_any}
use Rattle.std.specs.Map.{lookup}
use Rattle.std.specs.Ordering.{nat_cmp}
use Rattle.elf64.specs.Relocations.{Relocation, relocations_of}
use Rattle.elf64.specs.Sections.{Section}

abbrev pub lacks_symbol : Relocation → Bool
lacks_symbol r = is_none r.symbol

-- Whether a relocation of a section has no symbol.
abbrev pub has_relocation_without_symbol : List ℕ → Section → Bool
has_relocation_without_symbol file section =
    list_any lacks_symbol (relocations_of file section.index)

-- The relocations by offset with one more. It replaces an earlier relocation of the same offset.
abbrev pub with_relocation : List (ℕ × Relocation) → Relocation → List (ℕ × Relocation)
with_relocation entries r = insert_entry nat_cmp entries r.offset r

-- The relocations of a section, by offset.
abbrev pub relocations_by_offset : List ℕ → ℕ → List (ℕ × Relocation)
relocations_by_offset file index = fold with_relocation [] (relocations_of file index)

-- The relocation at an offset of a section.
abbrev pub relocation_at : List ℕ → ℕ → ℕ → Option Relocation
relocation_at file index offset = lookup (is_at (nat_cmp offset)) (relocations_by_offset file index)

-- The last relocation with an offset.
abbrev pub last_of_offset : List Relocation → ℕ → Option Relocation
last_of_offset relocations offset = find (λ r. r.offset == offset) (reverse relocations)

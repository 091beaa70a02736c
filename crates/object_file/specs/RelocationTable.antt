-- Relocations by section, and by section and offset.
use Rattle.std.specs.Prelude.{◌≡◌, ℕ, ◌==◌, List, [], ◌++◌, fold, if◌then◌else◌}
use Rattle.std.specs.Option.{option_map_or}
use Rattle.std.specs.BTreeMap.{get}
use Rattle.std.specs.Ordering.{nat_cmp}
use Rattle.elf64.specs.Relocations.{Relocation, relocations_of}
use Rattle.object_file.specs.Relocations.{relocations_by_offset, with_relocation}
use Rattle.object_file.specs.declared.relocations.RelocationTable.{RelocationTable}

-- The relocations that a table has for a section.
abbrev pub relocations_at : RelocationTable → ℕ → List Relocation
relocations_at table index = option_map_or (λ v. v.items) (get nat_cmp table.by_section index) []

abbrev pub offsets_at : RelocationTable → ℕ → List (ℕ × Relocation)
offsets_at table index = option_map_or (λ m. m.entries) (get nat_cmp table.by_offset index) []

-- For each section, the table has the relocations that the file has.
pub record AreRelocationsOf (table : RelocationTable) (file : List ℕ) : Type 0 where
  pub at : (index : ℕ) → relocations_at table index ≡ relocations_of file index
  pub by_offset : (index : ℕ) → offsets_at table index ≡ relocations_by_offset file index
  pub none : table.none.entries ≡ []

-- The added relocations are appended to the relocations of their target section.
pub record AddsRelocations (old new : RelocationTable) (target : ℕ) (added : List Relocation)
    : Type 0 where
  pub at : (i : ℕ)
      → relocations_at new i ≡ relocations_at old i ++ (if target == i then added else [])
  pub none : new.none ≡ old.none
  pub by_offset : (i : ℕ)
      → offsets_at new i
      ≡ fold with_relocation (offsets_at old i) (if target == i then added else [])

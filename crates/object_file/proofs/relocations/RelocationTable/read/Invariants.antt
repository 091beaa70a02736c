use Rattle.std.proofs.Common.{◌≡◌, ℕ, List, [], ◌++◌, fold}
use Rattle.elf64.specs.Relocations.{relocation_sections_of, relocations_to}
use Rattle.object_file.specs.Relocations.{with_relocation}
use Rattle.object_file.specs.RelocationTable.{relocations_at, offsets_at}
use Rattle.object_file.specs.declared.relocations.RelocationTable.{RelocationTable}
use Rattle.object_file.proofs.relocations.RelocationTable.read.Given as goal
use Rattle.elf64.specs.Relocations.{RelocationSection}

-- For each section, the relocations of the table and the remaining ones are all its relocations.
pub record Reads (table : RelocationTable) (left all : List RelocationSection) : Type 0 where
  pub at : (index : ℕ) → relocations_at table index ++ relocations_to index left ≡ relocations_to index all
  pub by_offset : (index : ℕ) → fold with_relocation (offsets_at table index) (relocations_to index left) ≡ fold with_relocation [] (relocations_to index all)
  pub none : table.none.entries ≡ []

abbrev pub invariant-loop-section : goal.invariant-loop-section
invariant-loop-section l = Reads l.table l.section-iterator (relocation_sections_of l.elf)

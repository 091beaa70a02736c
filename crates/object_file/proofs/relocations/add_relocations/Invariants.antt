use Rattle.std.proofs.Common.{◌≡◌, ◌++◌, fold}
use Rattle.object_file.specs.Relocations.{with_relocation}
use Rattle.object_file.proofs.relocations.add_relocations.Given as goal

-- Together with the relocations that are left, the list and the map have all that they are to have.
abbrev pub invariant-loop-relocation : goal.invariant-loop-relocation
invariant-loop-relocation l = record {
  list : l.list.items ++ l.relocation-iterator ≡ l.initial.list.items ++ l.section.relocations;
  by_offset : fold with_relocation l.by_offset.entries l.relocation-iterator ≡ fold with_relocation l.initial.by_offset.entries l.section.relocations;
}

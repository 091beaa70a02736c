use Rattle.std.proofs.Common.{◌≡◌, ◌++◌, length}
use Rattle.elf64.specs.Relocations.{relocations_to}
use Rattle.elf64.proofs.relocation_section.RelocationsIterator.next.Given as goal

abbrev pub invariant-loop-relocation : goal.invariant-loop-relocation
invariant-loop-relocation l =
    let now = l.self-inside in
    let old = l.initial.self-inside in
    now.entries ++ relocations_to now.target now.sections ≡ old.entries ++ relocations_to old.target old.sections

abbrev pub decreases-loop-relocation : goal.decreases-loop-relocation
decreases-loop-relocation l = length l.self-inside.sections

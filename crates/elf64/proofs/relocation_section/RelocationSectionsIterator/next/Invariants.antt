use Rattle.std.proofs.Common.{◌≡◌, ◌+◌, ◌*◌, ◌^◌, ◌≤◌, ◌<◌, length}
use Rattle.std.specs.List.{range_with_len}
use Rattle.elf64.specs.Relocations.{relocation_sections_at}
use Rattle.elf64.proofs.relocation_section.RelocationSectionsIterator.next.Given as goal

abbrev pub invariant-loop-self : goal.invariant-loop-self
invariant-loop-self l =
    let now = l.self-inside in
    let old = l.initial.self-inside in
    (relocation_sections_at now.bytes.now now.order now.table.now now.symbol_table (range_with_len now.next now.left)
    ≡ relocation_sections_at old.bytes.now old.order old.table.now old.symbol_table (range_with_len old.next old.left))
    × (0 < now.left → 64 * (now.next + now.left) ≤ length now.table.now) × (length now.table.now < 2 ^ 64)

abbrev pub decreases-loop-self : goal.decreases-loop-self
decreases-loop-self l = l.self-inside.left

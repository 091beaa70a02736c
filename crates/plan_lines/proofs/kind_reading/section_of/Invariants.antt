use Rattle.std.proofs.Common.{◌≡◌, find}
use Rattle.std.specs.Array.Iter.{array_into_iter_items}
use Rattle.plan_lines.specs.Kinds.{are_same, section_of}
use Rattle.plan_lines.specs.ProgramKinds.{kind_numbers}
use Rattle.plan_lines.proofs.kind_reading.section_of.Given as goal

abbrev pub invariant-loop-section : goal.invariant-loop-section
invariant-loop-section l = find (λ s. are_same (kind_numbers s) l.numbers) (array_into_iter_items l.section-iterator) ≡ section_of l.numbers

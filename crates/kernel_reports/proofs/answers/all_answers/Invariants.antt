use Rattle.std.proofs.Common.{◌≡◌, map, take}
use Rattle.kernel_reports.specs.Answers.{answer_to}
use Rattle.kernel_reports.proofs.answers.all_answers.Given as goal

abbrev pub invariant-loop-at : goal.invariant-loop-at
invariant-loop-at l = (l.answers.items ≡ map (answer_to l.local l.targets) (take l.at-index l.relocations)) × (l.matcher ≡ record { local = l.local; targets = l.targets })

use Rattle.std.proofs.Common.{◌≡◌, drop}
use Rattle.command_line.specs.SettingWords.{without}
use Rattle.command_line.proofs.prepare_line.without.Given as goal

abbrev pub invariant-loop-feature : goal.invariant-loop-feature
invariant-loop-feature l = without l.features (drop l.feature-index l.denied) ≡ without l.fn.granted l.denied

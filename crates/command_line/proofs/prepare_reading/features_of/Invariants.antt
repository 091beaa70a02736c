use Rattle.std.proofs.Common.{◌≡◌, ℕ, List, map, take, Some}
use Rattle.std.specs.Borrow.{Bor}
use Rattle.run_settings.specs.Features.{feature_named}
use Rattle.command_line.proofs.prepare_reading.features_of.Given as goal

abbrev pub invariant-loop-name : goal.invariant-loop-name
invariant-loop-name l = map Some l.features.items ≡ map (λ (name : Bor (List ℕ)). feature_named name.now) (take l.name-index l.names)

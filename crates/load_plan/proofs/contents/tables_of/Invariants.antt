use Rattle.std.proofs.Common.{◌≡◌, ◌++◌, ◌<◌}
use Rattle.std.specs.Prelude.{◌^◌}
use Rattle.std.specs.List.{All}
use Rattle.load_plan.proofs.contents.tables_of.Given as goal

abbrev pub invariant-loop-place : goal.invariant-loop-place
invariant-loop-place l = (l.places.items ++ l.place-iterator ≡ l.function.matched_tables) × All (λ place. place < 2 ^ 32) l.places.items

use Rattle.std.proofs.Common.{◌≡◌, length}
use Rattle.toml.specs.View.{members_view}
use Rattle.run_settings.specs.Invalid.{first_invalid}
use Rattle.run_settings.proofs.invalid.first_invalid.Given as goal

abbrev pub invariant-loop-key : goal.invariant-loop-key
invariant-loop-key l = first_invalid (members_view l.entries) ≡ first_invalid (members_view l.table.entries)

abbrev pub decreases-loop-key : goal.decreases-loop-key
decreases-loop-key l = length l.entries

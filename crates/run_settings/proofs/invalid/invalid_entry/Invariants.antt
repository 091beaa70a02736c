use Rattle.std.proofs.Common.{◌≡◌, length}
use Rattle.toml.specs.View.{members_view}
use Rattle.run_settings.specs.Invalid.{invalid_entry}
use Rattle.run_settings.proofs.invalid.invalid_entry.Given as goal

abbrev pub invariant-loop-key : goal.invariant-loop-key
invariant-loop-key l = invalid_entry l.name (members_view l.entries) ≡ invalid_entry l.name (members_view l.table.entries)

abbrev pub decreases-loop-key : goal.decreases-loop-key
decreases-loop-key l = length l.entries

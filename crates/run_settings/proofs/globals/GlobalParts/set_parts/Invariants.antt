use Rattle.std.proofs.Common.{◌≡◌, length}
use Rattle.toml.specs.View.{members_view}
use Rattle.run_settings.specs.Documents.{with_parts}
use Rattle.run_settings.proofs.globals.GlobalParts.set_parts.Given as goal

abbrev pub invariant-loop-key : goal.invariant-loop-key
invariant-loop-key l = with_parts l.self (members_view l.entries) ≡ with_parts l.fn.self (members_view l.table.entries)

abbrev pub decreases-loop-key : goal.decreases-loop-key
decreases-loop-key l = length l.entries

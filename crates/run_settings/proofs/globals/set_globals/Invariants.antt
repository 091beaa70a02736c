use Rattle.std.proofs.Common.{◌≡◌, length}
use Rattle.toml.specs.View.{members_view}
use Rattle.run_settings.specs.Documents.{with_globals}
use Rattle.run_settings.proofs.globals.set_globals.Given as goal

abbrev pub invariant-loop-name : goal.invariant-loop-name
invariant-loop-name l = (with_globals l.settings.globals (members_view l.entries) ≡ with_globals l.fn.settings.globals (members_view l.table.entries)) × (l.settings.maps ≡ l.fn.settings.maps)

abbrev pub decreases-loop-name : goal.decreases-loop-name
decreases-loop-name l = length l.entries

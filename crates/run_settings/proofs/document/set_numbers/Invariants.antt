use Rattle.std.proofs.Common.{◌≡◌, length}
use Rattle.toml.specs.View.{members_view}
use Rattle.run_settings.specs.Documents.{with_numbers}
use Rattle.run_settings.proofs.document.set_numbers.Given as goal

abbrev pub invariant-loop-name : goal.invariant-loop-name
invariant-loop-name l = (with_numbers l.settings.maps (members_view l.entries) ≡ with_numbers l.fn.settings.maps (members_view l.table.entries)) × (l.settings.globals ≡ l.fn.settings.globals)

abbrev pub decreases-loop-name : goal.decreases-loop-name
decreases-loop-name l = length l.entries

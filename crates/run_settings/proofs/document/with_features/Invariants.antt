use Rattle.std.proofs.Common.{◌≡◌, length}
use Rattle.toml.specs.View.{members_view}
use Rattle.run_settings.specs.Documents.{with_features}
use Rattle.run_settings.proofs.document.with_features.Given as goal

abbrev pub invariant-loop-name : goal.invariant-loop-name
invariant-loop-name l = with_features l.features (members_view l.entries) ≡ with_features l.fn.granted (members_view l.table.entries)

abbrev pub decreases-loop-name : goal.decreases-loop-name
decreases-loop-name l = length l.entries

use Rattle.std.proofs.Common.{◌≡◌}
use Rattle.object_parts.specs.MatchedTables.{with_tables}
use Rattle.object_parts.proofs.matched_tables.MatchedTables.enter_all.Given as goal

-- The tables with the remaining ones are the old tables with all others.
abbrev pub invariant-loop-place : goal.invariant-loop-place
invariant-loop-place l = with_tables l.self l.place-iterator ≡ with_tables l.fn.self l.others

use Rattle.std.proofs.Common.{◌≡◌, ◌++◌, ◌-◌, filter, find, length}
use Rattle.std.specs.List.{flat_map, range_with_len}
use Rattle.core_match.specs.Candidates.{all_types, is_candidate, is_unreadable_at, types_at}
use Rattle.core_match.proofs.candidates.candidates_in.Given as goal

abbrev pub invariant-loop-table : goal.invariant-loop-table
invariant-loop-table l = (l.found.items ++ filter (is_candidate l.wanted l.targets) (flat_map (types_at l.targets) (range_with_len l.table (length l.targets - l.table))) ≡ filter (is_candidate l.wanted l.targets) (all_types l.targets)) × (find (is_unreadable_at l.wanted l.targets) (flat_map (types_at l.targets) (range_with_len l.table (length l.targets - l.table))) ≡ find (is_unreadable_at l.wanted l.targets) (all_types l.targets))

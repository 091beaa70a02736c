use Rattle.std.proofs.Common.{◌≡◌, ◌++◌, filter, find}
use Rattle.core_match.specs.Candidates.{is_candidate, is_unreadable_at}
use Rattle.core_match.specs.CandidateSearches.{types_of_ids}
use Rattle.core_match.proofs.FoundCandidates.{types_left}
use Rattle.core_match.proofs.candidates.add_candidates.Given as goal

abbrev pub invariant-loop-type_id : goal.invariant-loop-type_id
invariant-loop-type_id l = (l.found.items ++ filter (is_candidate l.wanted l.targets) (types_left l.table l.type_ids l.type_id-index) ≡ l.fn.found.items ++ filter (is_candidate l.wanted l.targets) (types_of_ids l.table l.type_ids)) × (find (is_unreadable_at l.wanted l.targets) (types_left l.table l.type_ids l.type_id-index) ≡ find (is_unreadable_at l.wanted l.targets) (types_of_ids l.table l.type_ids))

use Rattle.std.proofs.Common.{◌≡◌, ◌++◌, ◌-◌}
use Rattle.std.specs.List.{range_with_len}
use Rattle.btf_search.specs.Searches.{found_among, found_in}
use Rattle.btf_search.proofs.named_types.found_in.Given as goal

abbrev pub invariant-loop-id : goal.invariant-loop-id
invariant-loop-id l = l.found ++ found_among l.search l.table (range_with_len l.id (l.count - l.id)) ≡ found_in l.search l.table

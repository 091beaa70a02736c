use Rattle.std.proofs.Common.{◌≡◌, map, take}
use Rattle.btf_search.specs.Searches.{found_in}
use Rattle.btf_search.proofs.named_types.found_in_each.Given as goal

abbrev pub invariant-loop-table : goal.invariant-loop-table
invariant-loop-table l = l.found.items ≡ map (found_in l.search) (take l.table-index l.tables)

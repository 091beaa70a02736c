use Rattle.std.proofs.Common.{◌≡◌}
use Rattle.btf_search.specs.Searches.{ArePrefixes}
use Rattle.btf_search.proofs.search.Search.all_of.Given as goal

abbrev pub invariant-loop-name : goal.invariant-loop-name
invariant-loop-name l = ArePrefixes l.names.keys l.prefixes × (l.prefixes.short.len ≡ l.initial.prefixes.short.len)

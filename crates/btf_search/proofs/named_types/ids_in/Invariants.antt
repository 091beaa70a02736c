use Rattle.std.proofs.Common.{◌≡◌, ◌++◌, ◌-◌, filter}
use Rattle.std.specs.List.{range_with_len}
use Rattle.btf_search.specs.NamedTypes.{is_asked, is_so, named_ids}
use Rattle.btf_search.proofs.named_types.ids_in.Given as goal

abbrev pub invariant-loop-id : goal.invariant-loop-id
invariant-loop-id l = l.ids.items ++ filter (is_so (is_asked l.kinds l.name) l.table) (range_with_len l.id (l.count - l.id)) ≡ named_ids l.kinds l.name l.table

use Rattle.std.proofs.Common.{◌≡◌, ◌++◌, drop, filter, map}
use Rattle.btf_search.specs.NamedTypes.{is_asked}
use Rattle.btf_search.proofs.named_types.ids_among.Given as goal

abbrev pub invariant-loop-one : goal.invariant-loop-one
invariant-loop-one l = l.ids.items ++ map (λ f. f.type_id) (filter (λ f. is_asked l.kinds l.name f.kind f.name) (drop l.one-index l.found)) ≡ map (λ f. f.type_id) (filter (λ f. is_asked l.kinds l.name f.kind f.name) l.found)

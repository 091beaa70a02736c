use Rattle.std.proofs.Common.{◌≡◌, Some, true, rules}
use Rattle.std.specs.Prelude.{slice_get}
use Rattle.btf_search.specs.Searches.{covers}
use Rattle.btf_search.proofs.Walks.{covered, got}
use Rattle.btf_search.proofs.named_types.NamedTypes.found_for.Goals as goal

pub returns-in-Some : goal.returns-in-Some
returns-in-Some c =
    let here : Some c.in-Some.found.now ≡ slice_get c.self.inside.found.items c.args.table = got c.self.inside.found.items c.deref.result.now c.args.table c.in-Some.found.now c.deref.ensures.value c.in-Some.ensures.lookup.3.0 c.in-Some.ensures.lookup.1 in
    let sure : covers c.self.inside.search c.args.kinds.now c.args.name.now ≡ true = search rules in
    rw (← c.self.view_is, c.as_slice.ensures) (covered c.self.inside.search c.self.inside.tables.now c.self.inside.found.items c.args.table c.args.kinds.now c.args.name.now c.in-Some.found.now c.self.invariant sure here)

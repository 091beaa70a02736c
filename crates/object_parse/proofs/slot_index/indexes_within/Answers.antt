use Rattle.std.proofs.lemmas.List.Sorted.{IsNonDecreasingBy-from_sort}
use Rattle.object_parse.proofs.Counts.{sorted_indexes}
use Rattle.object_parse.proofs.slot_index.indexes_within.Goals as goal

pub returns : goal.returns
returns c = sorted_indexes c.args.from c.args.count c.args.places.now _ (rw (c.in_ok-indexes.ensures, c.stretch.ensures) at c.in_ok-sort.ensures.permutation) (IsNonDecreasingBy-from_sort (λ x. x) _ c.in_ok-sort.ensures.sorted)

use Rattle.std.proofs.Common.{rules}
use Rattle.std.proofs.lemmas.List.Sorted.{IsNonDecreasingBy-from_sort_by_key}
use Rattle.object_parse.proofs.slot_index.order_by_slot.Goals as goal

pub returns : goal.returns
returns c = λ slots e. record {
  same = rw e at c.in_ok-sort_by_key.ensures.permutation;
  ordered = IsNonDecreasingBy-from_sort_by_key (λ p. p.slot) _ c.in_ok-sort_by_key.ensures.sorted (λ a r q k. search rules);
}

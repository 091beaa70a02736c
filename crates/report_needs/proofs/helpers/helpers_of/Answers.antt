use Rattle.std.proofs.Common.{arith}
use Rattle.std.proofs.lemmas.Bool.Decides.{nat_tests}
use Rattle.std.proofs.lemmas.Cmp.{int_cmp_total, int_eq_equiv}
use Rattle.std.proofs.lemmas.Int.{ints}
use Rattle.std.proofs.lemmas.List.Filters.{dedup_is}
use Rattle.std.proofs.lemmas.List.Kept.{Contains-dedup, Contains-from_dedup, IsStrictlySortedBy-dedup}
use Rattle.std.proofs.lemmas.List.Sorted.{Contains-permutation, IsPermutation-sym}
use Rattle.report_needs.proofs.helpers.helpers_of.Goals as goal

pub returns : goal.returns
returns c =
    let is = dedup_is _ _ _ c.dedup.ensures.filtered in
    let moved = c.sort_unstable.ensures.permutation in
    let called = c.in_ok-numbers.ensures in
    record {
      rising = rw is (IsStrictlySortedBy-dedup int_cmp_total (λ x y. grind (arith, ints, nat_tests)) _ c.sort_unstable.ensures.sorted);
      each = λ n h. rw is (Contains-dedup int_eq_equiv (λ x y e. grind (arith, ints, nat_tests)) _ n (Contains-permutation _ _ n moved (rw called h)));
      none_else = λ n h. rw called at (Contains-permutation _ _ n (IsPermutation-sym _ _ moved) (Contains-from_dedup _ _ n (rw is at h)));
    }

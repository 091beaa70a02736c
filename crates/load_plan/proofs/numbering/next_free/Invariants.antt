use Rattle.std.proofs.Common.{◌≡◌, ◌<◌, ◌≤◌, ◌-◌, ◌^◌, ℕ, true}
use Rattle.std.specs.BTreeSet.{contains}
use Rattle.std.specs.Ordering.{nat_cmp}
use Rattle.load_plan.proofs.numbering.next_free.Given as goal

abbrev pub invariant-loop-number : goal.invariant-loop-number
invariant-loop-number l = record {
  small : l.number ≤ 2 ^ 31;
  later : l.start ≤ l.number;
  used : (n : ℕ) → l.start ≤ n → n < l.number → contains nat_cmp l.used n ≡ true;
}

abbrev pub decreases-loop-number : goal.decreases-loop-number
decreases-loop-number l = 2147483648 - l.number

-- The pairs of types that a comparison has entered, with their states.
use Rattle.std.specs.Prelude.{◌≡◌, ℕ, List, Option, Some, if◌then◌else◌}
use Rattle.std.specs.BTreeMap.{is_at}
use Rattle.std.specs.Map.{lookup}
use Rattle.std.specs.Ordering.{nat_cmp, ordering_then}
use Rattle.std.specs.declared.cmp.Ordering.{Ordering}
use Rattle.btf_compatibility.specs.TypeCompatibility.{is_pair}
use Rattle.btf_compatibility.specs.declared.pairs.PairState.{PairState}

abbrev pub pair_cmp : ℕ × ℕ → ℕ × ℕ → Ordering
pair_cmp p q = ordering_then (nat_cmp p.0 q.0) (nat_cmp p.1 q.1)

unfoldable pub state_of : List ((ℕ × ℕ) × PairState) → ℕ → ℕ → Option PairState
state_of states l r = lookup (is_at (pair_cmp (l, r))) states

-- One pair gets a new state. The states of the others are unchanged.
pub record SetsState (before after : List ((ℕ × ℕ) × PairState)) (l r : ℕ) (state : PairState)
    : Type 0 where
  pub each : (i k : ℕ)
      → state_of after i k ≡ (if is_pair l r (i, k) then Some state else state_of before i k)

-- The states of pairs, as a map stores them.
use Rattle.std.proofs.Common.{◌≡◌, ℕ, List, Some, ap, ◌∙◌, arith}
use Rattle.std.proofs.lemmas.Bool.Decides.{nat_tests}
use Rattle.std.proofs.lemmas.Grind.{common_steps}
use Rattle.std.specs.Prelude.{Bool, if◌then◌else◌}
use Rattle.std.specs.BTreeMap.{is_at}
use Rattle.std.specs.Map.{lookup}
use Rattle.btf_compatibility.specs.TypeCompatibility.{is_pair}
use Rattle.btf_compatibility.specs.Pairs.{SetsState, pair_cmp, state_of}
use Rattle.btf_compatibility.specs.declared.pairs.PairState.{PairState}

same_test : (l r i k : ℕ) → is_at (pair_cmp (l, r)) (i, k) ≡ is_pair l r (i, k)
same_test l r i k = grind (arith, common_steps, nat_tests)

pub sets_state : (before after : List ((ℕ × ℕ) × PairState)) (l r : ℕ) (state : PairState) → ((q : ℕ × ℕ) → lookup (is_at (pair_cmp q)) after ≡ (if is_at (pair_cmp (l, r)) q then Some state else lookup (is_at (pair_cmp q)) before)) → SetsState before after l r state
unfolding state_of
sets_state before after l r state h =
    record { each = λ i k. h (i, k) ∙ ap (λ (b : Bool). if b then Some state else lookup (is_at (pair_cmp (i, k))) before) (same_test l r i k) }

use Rattle.std.proofs.Common.{◌≡◌, ◌<◌, ◌≤◌, ℕ, length}
use Rattle.std.specs.Prelude.{slice_index}
use Rattle.btf_search.proofs.prefixes.first_bytes.Given as goal

abbrev pub invariant-loop-index : goal.invariant-loop-index
invariant-loop-index l = (length l.first ≡ 8) × (l.index ≤ l.index-end) × ((i : ℕ) → i < l.index → slice_index l.first i ≡ slice_index l.bytes i) × ((i : ℕ) → l.index ≤ i → i < 8 → slice_index l.first i ≡ 0)

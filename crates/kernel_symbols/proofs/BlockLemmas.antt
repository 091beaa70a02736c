-- A comparison of all bytes of a block at once, byte by byte.
use Rattle.std.proofs.Common.{◌≡◌, ℕ, ◌+◌, ◌%◌, ◌^◌, ◌≤◌, Bool, true, false, not, ◌||◌, List, map, length, get_or, Fits, w8, sym, ap, ◌∙◌, arith}
use Rattle.std.proofs.lemmas.Bool.{agree_below, agree_below_at}
use Rattle.std.proofs.lemmas.List.{length-map}
use Rattle.std.proofs.lemmas.Simd.{first_set_mask_l, length-chunk, map-map, mask_l-mod, run_in_chunk_fails, run_in_chunk_le}
use Rattle.std.specs.List.{prefix_len}
use lib.Lanes.{chunk, mask_l, top}
use Rattle.kernel_symbols.specs.Words.{ArePlain, first_set, is_plain}

module _ (bytes : List ℕ) (at run : ℕ) (lanes : List ℕ) (room : at + 16 ≤ length bytes) (fits : (k : ℕ) → Fits w8 (get_or bytes k 0))
    (found : run ≡ first_set (mask_l (map (top 7) lanes) % 2 ^ 64)) (lane : ℕ → ℕ) (computed : lanes ≡ map lane (chunk at 16 bytes)) where
  abbrev pub stops : ℕ → Bool
  stops x = top 7 (lane x)

  counted : run ≡ prefix_len (λ x. not (stops x)) (chunk at 16 bytes)
  counted =
      let block = chunk at 16 bytes in
      let long : length block ≡ 16 = length-chunk at 16 bytes room in
      let mask = ap (λ l. mask_l l % 2 ^ 64) (ap (map (top 7)) computed ∙ map-map (top 7) lane block) ∙ mask_l-mod (map stops block) 64 (omega (arith, length-map block stops, long)) in
      found ∙ ap first_set mask ∙ first_set_mask_l stops block 16 long (omega arith)

  pub block_within : run ≤ 16
  block_within = run_in_chunk_le stops bytes at 16 run 0 room counted

  -- Each byte before the first lane that stops is plain.
  pub block_plain : agree_below (λ x. stops x || is_plain x) (λ _. true) 256 ≡ true → ArePlain bytes at (at + run)
  block_plain all = record {
    each = λ k from to.
        let goes_on : stops (get_or bytes k 0) ≡ false = run_in_chunk_fails stops bytes at 16 run 0 room counted k from to in
        sym (ap (λ b. b || is_plain (get_or bytes k 0)) goes_on) ∙ agree_below_at (λ x. stops x || is_plain x) (λ _. true) 256 (get_or bytes k 0) all (fits k).fits;
  }

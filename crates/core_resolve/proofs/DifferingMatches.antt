-- The matches that differ from the first match, in order.
use Rattle.std.proofs.Common.{◌≡◌, ℕ, ◌+◌, ◌<◌, ◌≤◌, Bool, true, false, None, List, [], ◌∷◌, ◌++◌, drop, filter, get_or, length, sym, ◌∙◌, arith, add-one, append_assoc, append-nil, drop-cons}
use Rattle.std.proofs.lemmas.Grind.{common_steps}
use Rattle.std.specs.Prelude.{not}
use Rattle.core_resolve.specs.Outcomes.{agree}
use Rattle.core_resolve.specs.declared.matches.Match.{Match}

abbrev pub match_in : List Match → ℕ → Match
match_in ms i = get_or ms i (record { table = 0; type_id = 0; bit_offset = 0; value = None })

abbrev pub differs : Match → Match → Bool
differs first other = not (agree first other)

this_match : (ms : List Match) (i : ℕ) → i < length ms → drop i ms ≡ match_in ms i ∷ drop (i + 1) ms
this_match ms i lt = rw add-one (drop-cons ms i (record { table = 0; type_id = 0; bit_offset = 0; value = None }) lt)

pub conflict_on : (first : Match) (ms old all : List Match) (i : ℕ) → i < length ms → old ++ filter (differs first) (drop i ms) ≡ all → agree first (match_in ms i) ≡ false → (old ++ match_in ms i ∷ []) ++ filter (differs first) (drop (i + 1) ms) ≡ all
conflict_on first ms old all i lt left is = append_assoc old (match_in ms i ∷ []) (filter (differs first) (drop (i + 1) ms)) ∙ (rw (this_match ms i lt, is) at left)

pub conflict_past : (first : Match) (ms old all : List Match) (i : ℕ) → i < length ms → old ++ filter (differs first) (drop i ms) ≡ all → agree first (match_in ms i) ≡ true → old ++ filter (differs first) (drop (i + 1) ms) ≡ all
conflict_past first ms old all i lt left is = rw (this_match ms i lt, is) at left

nothing_left : (ms : List Match) (i : ℕ) → length ms ≤ i → drop i ms ≡ []
nothing_left ms i le = grind (arith, common_steps)

pub conflict_end : (first : Match) (ms old all : List Match) (i : ℕ) → length ms ≤ i → old ++ filter (differs first) (drop i ms) ≡ all → old ≡ all
conflict_end first ms old all i le left = sym (append-nil old) ∙ (rw (nothing_left ms i le) at left)

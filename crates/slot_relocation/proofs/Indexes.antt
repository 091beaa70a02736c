-- The index of the last map of a symbol or a section.
use Rattle.std.proofs.Common.{arith, ◌≡◌, ℕ, ◌==◌, Bool, true, false, cond, List, [], ◌∷◌, ◌++◌, Option, Some, refl, sym, ap, ◌∙◌}
use Rattle.std.specs.Prelude.{find, option_and_then, slice_get}
use Rattle.std.specs.BTreeMap.{get, is_at}
use Rattle.std.specs.Ordering.{is_eq, nat_cmp}
use Rattle.std.proofs.lemmas.Bool.Decides.{nat_tests}
use Rattle.std.proofs.lemmas.List.{reverse-append}
use Rattle.slot_relocation.specs.Maps.{NumberedMap, last_map}
use Rattle.slot_relocation.specs.Walks.{Places, map_at}

same_number : (a b : ℕ) → is_eq (nat_cmp a b) ≡ (a == b)
same_number a b = grind (arith, nat_tests)

last_more : (test : NumberedMap → Bool) (before : List NumberedMap) (m : NumberedMap) → last_map test (before ++ (m ∷ [])) ≡ cond (test m) (Some m) (last_map test before)
last_more test before m = ap (find test) (reverse-append before (m ∷ []))

-- The inserted entry leads to the map.
entered : (all : List NumberedMap) (b : Bool) (i : ℕ) (m : NumberedMap) (old : Option ℕ) → slice_get all i ≡ Some m → option_and_then (slice_get all) (cond b (Some i) old) ≡ cond b (Some m) (option_and_then (slice_get all) old)
entered all true i m old h = h
entered all false i m old h = refl

pub placed : (test : ℕ → NumberedMap → Bool) (all before more : List NumberedMap) (i k : ℕ) (m : NumberedMap) (old new : Places) → more ≡ before ++ (m ∷ []) → slice_get all i ≡ Some m → ((q : ℕ) → test q m ≡ (k == q)) → ((q : ℕ) → get nat_cmp new q ≡ cond (is_at (nat_cmp k) q) (Some i) (get nat_cmp old q)) → ((q : ℕ) → map_at all old q ≡ last_map (test q) before) → (q : ℕ) → map_at all new q ≡ last_map (test q) more
placed test all before more i k m old new split at is updates last q =
    ap (option_and_then (slice_get all)) (updates q)
    ∙ entered all (is_at (nat_cmp k) q) i m (get nat_cmp old q) at
    ∙ ap (λ b. cond b (Some m) (map_at all old q)) (same_number k q ∙ sym (is q))
    ∙ ap (λ o. cond (test q m) (Some m) o) (last q)
    ∙ sym (last_more (test q) before m)
    ∙ ap (last_map (test q)) (sym split)

-- A map that passes no test changes no look-up.
pub passed : (test : ℕ → NumberedMap → Bool) (all before more : List NumberedMap) (m : NumberedMap) (old : Places) → more ≡ before ++ (m ∷ []) → ((q : ℕ) → test q m ≡ false) → ((q : ℕ) → map_at all old q ≡ last_map (test q) before) → (q : ℕ) → map_at all old q ≡ last_map (test q) more
passed test all before more m old split is last q =
    last q
    ∙ ap (λ b. cond b (Some m) (last_map (test q) before)) (sym (is q))
    ∙ sym (last_more (test q) before m)
    ∙ ap (last_map (test q)) (sym split)

-- Comparisons without a limit of open pairs. A comparison opens one more pair at each step inwards,
-- so all limits above the number of pairs that aren't open give the same result.
use Rattle.std.proofs.Common.{◌≡◌, ℕ, zero, suc, ◌+◌, ◌*◌, ◌<◌, ◌≤◌, ◌||◌, Bool, true, false, List, [], ◌∷◌, ◌++◌, length, Err, Result, refl, sym, ap, ◌∙◌, inl, inr, arith, cond}
use mathlib.Core.Path.{fun_ext}
use Rattle.std.proofs.lemmas.Bool.{cond-false, cond-true, or_left, or_right}
use Rattle.std.proofs.lemmas.Grind.{common_steps}
use Rattle.std.proofs.lemmas.List.Folds.{list_any-append}
use Rattle.btf_compatibility.specs.TypeCompatibility.{IsBoundless, after_modifiers, all_yes, and_also, compared, first_verdict, is_open, is_pair, pair_bound, pair_parts, pair_verdict}
use Rattle.btf_compatibility.proofs.Ids.{known-or_none}
use Rattle.btf_compatibility.proofs.Totals.{failing, failing-lt, failing-most}
use Rattle.btf_tables.specs.Tables.{Table, type_by_id}
use Rattle.btf_records.specs.declared.error.BtfError.{BtfError}
use Rattle.btf_records.specs.declared.error.BtfError.TheVariants.{MaximumTypeDepthReached}

abbrev pub deep : ℕ → Result Bool BtfError
deep asked = Err (MaximumTypeDepthReached asked)

pub is_open-push : (open_pairs : List (ℕ × ℕ)) (l r i k : ℕ)
    → is_open (open_pairs ++ (l, r) ∷ []) i k ≡ (is_open open_pairs i k || is_pair i k (l, r))
unfolding is_open
is_open-push open_pairs l r i k = grind (arith, common_steps, list_any-append)

pub pair-self : (l r : ℕ) → is_pair l r (l, r) ≡ true
pair-self l r = grind (arith, common_steps)

-- The number of pairs of known ids that aren't open.
abbrev free : Table → Table → List (ℕ × ℕ) → ℕ
free local target open_pairs = failing local target (is_open open_pairs) (λ _ _. 1)

free-push : (local target : Table) (open_pairs : List (ℕ × ℕ)) (l r : ℕ)
    → is_open open_pairs l r ≡ false
    → (l < suc (length local.types)) × (r < suc (length target.types))
    → free local target (open_pairs ++ (l, r) ∷ []) + 1 ≤ free local target open_pairs
free-push local target open_pairs l r closed known =
    failing-lt local target (is_open open_pairs) (is_open (open_pairs ++ (l, r) ∷ [])) (λ _ _. 1)
    (λ i k was. is_open-push open_pairs l r i k ∙ or_left _ _ was) l r known.0 known.1 closed
    (is_open-push open_pairs l r l r ∙ or_right _ _ (pair-self l r))

if-same : (b : Bool) (d x y : Result Bool BtfError) → (b ≡ false → x ≡ y)
    → cond b d x ≡ cond b d y
if-same true d x y h = refl
if-same false d x y h = h refl

module _ (local target : Table) (asked : ℕ) where
  -- The result for two ids by the results for their parts.
  abbrev pub by_parts : (ℕ → ℕ → Result Bool BtfError) → ℕ → ℕ → Result Bool BtfError
  by_parts go l r =
      and_also (pair_verdict local target l r)
      (all_yes (after_modifiers local target asked go) (pair_parts local target l r))

  pub by_verdict : (go : ℕ → ℕ → Result Bool BtfError) (l r : ℕ) (answer : Result Bool BtfError)
      → pair_verdict local target l r ≡ answer
      → by_parts go l r
      ≡ and_also answer
      (all_yes (after_modifiers local target asked go) (pair_parts local target l r))
  by_verdict go l r answer says =
      ap (λ (v : Result Bool BtfError). and_also v
      (all_yes (after_modifiers local target asked go) (pair_parts local target l r))) says

  inside : (go go' : ℕ → ℕ → Result Bool BtfError) (open_pairs : List (ℕ × ℕ)) (l r : ℕ)
      → is_open open_pairs l r ≡ false
      → (free local target (open_pairs ++ (l, r) ∷ []) < free local target open_pairs → go ≡ go')
      → by_parts go l r ≡ by_parts go' l r
  unfolding all_yes
  inside go go' open_pairs l r closed same =
      elim (known-or_none local target l r) [
        | inl none ↦
            let at = λ (g : ℕ → ℕ → Result Bool BtfError).
            ap (λ (ps : List (ℕ × ℕ)). and_also (pair_verdict local target l r)
            (all_yes (after_modifiers local target asked g) ps)) none in
            at go ∙ sym (at go')
        | inr known ↦
            let fewer = free-push local target open_pairs l r closed known in
            ap (λ (g : ℕ → ℕ → Result Bool BtfError). by_parts g l r) (same (omega arith))
      ]

  pub same_fuel : (n m : ℕ) (open_pairs : List (ℕ × ℕ)) → free local target open_pairs < n
      → free local target open_pairs < m
      → compared n local target asked open_pairs ≡ compared m local target asked open_pairs
  unfolding compared
  same_fuel zero m open_pairs first second = absurd (omega arith)
  same_fuel (suc n) zero open_pairs first second = absurd (omega arith)
  same_fuel (suc n) (suc m) open_pairs first second =
      fun_ext (λ l. fun_ext (λ r.
      if-same (is_open open_pairs l r) _ _ _ (λ closed.
      inside _ _ open_pairs l r closed (λ fewer.
      same_fuel n m (open_pairs ++ (l, r) ∷ []) (omega arith) (omega arith)))))

  pub free-below : (open_pairs : List (ℕ × ℕ))
      → free local target open_pairs < pair_bound local target
  free-below open_pairs = omega (arith, failing-most local target (is_open open_pairs))

  -- The result for two ids while these pairs are open.
  abbrev pub value : List (ℕ × ℕ) → ℕ → ℕ → Result Bool BtfError
  value = compared (pair_bound local target) local target asked

  pub value-open : (open_pairs : List (ℕ × ℕ)) (l r : ℕ) → is_open open_pairs l r ≡ true
      → value open_pairs l r ≡ deep asked
  unfolding compared
  value-open open_pairs l r is = cond-true _ _ _ is

  pub value-closed : (open_pairs : List (ℕ × ℕ)) (l r : ℕ) → is_open open_pairs l r ≡ false
      → value open_pairs l r ≡ by_parts (value (open_pairs ++ (l, r) ∷ [])) l r
  unfolding compared
  value-closed open_pairs l r closed =
      let below = free-below open_pairs in
      cond-false _ _ _ closed
      ∙ inside _ _ open_pairs l r closed (λ fewer.
      same_fuel (suc (length local.types) * suc (length target.types)) (pair_bound local target)
      (open_pairs ++ (l, r) ∷ []) (omega arith) (free-below (open_pairs ++ (l, r) ∷ [])))

pub boundless : (local : Table) (l : ℕ) (target : Table) (r : ℕ) → IsBoundless local l target r
boundless local l target r = record {
  same = λ n le.
      let few = free-below local target l [] in
      ap (λ (go : ℕ → ℕ → Result Bool BtfError).
      and_also (first_verdict l r (type_by_id local l) (type_by_id target r))
      (after_modifiers local target l go (l, r)))
      (same_fuel local target l n (pair_bound local target) [] (omega (arith, few, le)) few);
}

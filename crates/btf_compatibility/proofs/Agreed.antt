-- A comparison depends on the records that it reaches in each table.
use Rattle.std.proofs.Common.{◌≡◌, ℕ, zero, suc, ◌+◌, Bool, true, false, cond, List, [], ◌∷◌, ◌++◌, All, Result, refl, ap, ap₂, ◌∙◌, arith}
use Rattle.std.proofs.lemmas.List.Elements.{All-cons, All-head, All-nil, All-tail}
use Rattle.std.specs.List.{zip}
use Rattle.btf_tables.specs.Agreement.{AgreeOn, RestsOnBoth}
use Rattle.btf_tables.specs.Tables.{Table, type_by_id}
use Rattle.btf_compatibility.specs.TypeCompatibility.{after_modifiers, all_yes, and_also, compared, compared_ids, ends_compatible, first_verdict, is_open, pair_bound, parts_of, record_at, types_compatible, verdict}
use Rattle.btf_compatibility.proofs.Chains.{AllReached, AreReached, ends_same, more_reached, record_same}
use Rattle.btf_compatibility.proofs.Fuel.{free-below, same_fuel}
use Rattle.btf_records.specs.declared.error.BtfError.{BtfError}
use Rattle.btf_records.specs.declared.types.BtfType.{BtfType}

module _ (left right : ℕ → Bool) where
  zip_reached : (xs ys : List ℕ) → AllReached left xs → AllReached right ys
      → All (AreReached left right) (zip xs ys)
  zip_reached [] ys h k = All-nil (AreReached left right)
  zip_reached (x ∷ xs) [] h k = All-nil (AreReached left right)
  zip_reached (x ∷ xs) (y ∷ ys) h k =
      All-cons (AreReached left right) (x, y) (zip xs ys)
      (All-head (λ z. left z ≡ true) x xs h, All-head (λ z. right z ≡ true) y ys k)
      (zip_reached xs ys (All-tail (λ z. left z ≡ true) x xs h)
      (All-tail (λ z. right z ≡ true) y ys k))

  all_same : (ask ask' : ℕ × ℕ → Result Bool BtfError) (ps : List (ℕ × ℕ))
      → All (AreReached left right) ps
      → ((p : ℕ × ℕ) → AreReached left right p → ask' p ≡ ask p)
      → all_yes ask' ps ≡ all_yes ask ps
  unfolding all_yes
  all_same ask ask' [] h same = refl
  all_same ask ask' (p ∷ ps) h same =
      ap₂ and_also (same p (All-head (AreReached left right) p ps h))
      (all_same ask ask' ps (All-tail (AreReached left right) p ps h) same)

  module _ (local one target other : Table) (locals : AgreeOn compared_ids left local one)
      (targets : AgreeOn compared_ids right target other) where
    compared_same : (n asked : ℕ) (open_pairs : List (ℕ × ℕ)) (l r : ℕ)
        → AreReached left right (l, r)
        → compared n one other asked open_pairs l r ≡ compared n local target asked open_pairs l r
    unfolding compared
    compared_same zero asked open_pairs l r here = refl
    compared_same (suc n) asked open_pairs l r here =
        let inner = open_pairs ++ (l, r) ∷ [] in
        let ask = after_modifiers local target asked (compared n local target asked inner) in
        let ask' = after_modifiers one other asked (compared n one other asked inner) in
        let by = λ (f : ℕ × ℕ → Result Bool BtfError) (a b : BtfType).
        and_also (verdict l a b) (all_yes f (zip (parts_of a) (parts_of b))) in
        let a = record_at local l in
        let b = record_at target r in
        ap (cond (is_open open_pairs l r) _)
        (ap₂ (by ask') (record_same parts_of refl left local one locals l here.0)
        (record_same parts_of refl right target other targets r here.1)
        ∙ ap (and_also (verdict l a b))
        (all_same ask ask' (zip (parts_of a) (parts_of b))
        (zip_reached (parts_of a) (parts_of b)
        (more_reached parts_of refl left local one locals l here.0)
        (more_reached parts_of refl right target other targets r here.1))
        (λ p reached. ends_same parts_of refl left right local one target other locals targets asked
        (compared n local target asked inner) (compared n one other asked inner) p reached
        (λ i k _ _ to. compared_same n asked inner i k to))))

    value_same : (asked l r : ℕ) → AreReached left right (l, r)
        → compared (pair_bound one other) one other asked [] l r
        ≡ compared (pair_bound local target) local target asked [] l r
    value_same asked l r here =
        let n = pair_bound one other + pair_bound local target in
        let few = free-below local target asked [] in
        let few' = free-below one other asked [] in
        let at = λ (go : ℕ → ℕ → Result Bool BtfError). go l r in
        ap at (same_fuel one other asked (pair_bound one other) n [] few' (omega arith))
        ∙ (compared_same n asked [] l r here
        ∙ ap at (same_fuel local target asked n (pair_bound local target) [] (omega arith) few))

    types_same : (l r : ℕ) → AreReached left right (l, r)
        → types_compatible one l other r ≡ types_compatible local l target r
    types_same l r here =
        ap₂ and_also (ap₂ (first_verdict l r) (locals.same l here.0) (targets.same r here.1))
        (ends_same parts_of refl left right local one target other locals targets l _ _ (l, r) here
        (λ i k _ _ to. value_same l i k to))

pub types_rest : (local : Table) (l : ℕ) (target : Table) (r : ℕ)
    → RestsOnBoth compared_ids local l target r (λ one other. types_compatible one l other r)
types_rest local l target r = record {
  alike = λ left right one other locals targets here there.
      types_same left right local one target other locals targets l r (here, there);
}

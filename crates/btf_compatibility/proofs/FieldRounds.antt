-- The comparison of members, round by round.
use Rattle.std.proofs.Common.{◌≡◌, ◌≢◌, ℕ, suc, ◌+◌, ◌-◌, ◌<◌, Bool, true, false, cond, Option, None, Some, Result, Ok, Err, refl, sym, ap, ◌∙◌, arith}
use Rattle.std.specs.Prelude.{if◌then◌else◌, ◌&&◌}
use Rattle.std.specs.Option.{option_map, option_zip}
use Rattle.btf_compatibility.specs.TypeCompatibility.{record_at, same_kind}
use Rattle.btf_compatibility.specs.FieldCompatibility.{element_of, field_answer, field_verdict, fields_compared, is_composite, same_names}
use Rattle.btf_tables.specs.ResolvedTypes.{chain_end, max_depth}
use Rattle.btf_compatibility.proofs.Exchanged.{one_kind}
use Rattle.btf_records.specs.Fields.{array_of, kind_of_type}
use Rattle.btf_tables.specs.Tables.{Table}
use Rattle.btf_records.specs.declared.error.BtfError.{BtfError}
use Rattle.btf_records.specs.declared.error.BtfError.TheVariants.{MaximumTypeDepthReached}
use Rattle.btf_records.specs.declared.kind.BtfKind.{BtfKind}
use Rattle.btf_records.specs.declared.kind.BtfKind.TheVariants as kinds
use Rattle.btf_records.specs.declared.types.BtfType.{BtfType}
use Rattle.btf_records.specs.declared.types.BtfType.TheVariants as types

-- The element types of two arrays.
abbrev pub elements_of : BtfType → BtfType → Option (ℕ × ℕ)
elements_of a b = option_zip (option_map (λ array. array.element_type) (array_of a)) (option_map (λ array. array.element_type) (array_of b))

if_same : (b : Bool) (x y : Result Bool BtfError) → (b ≡ true → x ≡ y)
    → cond b x (Ok false) ≡ cond b y (Ok false)
if_same true x y h = h refl
if_same false x y h = refl

-- The result for two arrays is that for their elements.
arrays-verdict : (go : ℕ × ℕ → Result Bool BtfError) (local target : Table) (l : ℕ) (a b : BtfType) (x y : ℕ) → elements_of a b ≡ Some (x, y) → field_answer go local target l a b ≡ go (x, y)
arrays-verdict go local target l (types.Array t) (types.Array u) x y e =
    ap go (let same : (t.array.element_type, u.array.element_type) ≡ (x, y) = cc in same)
arrays-verdict go local target l (types.Array t) _ x y e = absurd cc
arrays-verdict go local target l _ b x y e = absurd cc

-- Two results for two records are the same if the names agree and so do, for arrays, the results
-- for their elements.
module _ (go go' : ℕ × ℕ → Result Bool BtfError) (local one target other : Table) (l : ℕ)
    (a b : BtfType) (names : same_names one other a b ≡ same_names local target a b) where
  by_kind : (k : BtfKind)
      → (k ≡ kinds.Array → go' (element_of a, element_of b) ≡ go (element_of a, element_of b))
      → field_verdict go' one other k l a b ≡ field_verdict go local target k l a b
  by_kind kinds.Fwd h = names
  by_kind kinds.Enum h = names
  by_kind kinds.Enum64 h = names
  by_kind kinds.Array h = h refl
  by_kind _ h = refl

  pub answer_same : (kind_of_type a ≡ kinds.Array → kind_of_type b ≡ kinds.Array
      → go' (element_of a, element_of b) ≡ go (element_of a, element_of b))
      → field_answer go' one other l a b ≡ field_answer go local target l a b
  answer_same h =
      ap (cond (is_composite a && is_composite b) (Ok true))
      (if_same (same_kind a b) _ _
      (λ same. by_kind (kind_of_type a) (λ is. h is (sym (one_kind a b same) ∙ is))))

no_arrays : (a b : BtfType) → elements_of a b ≡ None → kind_of_type a ≡ kinds.Array
    → kind_of_type b ≡ kinds.Array → ⊥
no_arrays (types.Array t) (types.Array u) e is_a is_b = absurd cc
no_arrays (types.Array t) _ e is_a is_b = absurd cc
no_arrays _ b e is_a is_b = absurd cc

-- The result for other types doesn't depend on that for elements.
others-verdict : (go go' : ℕ × ℕ → Result Bool BtfError) (local target : Table) (l : ℕ)
    (a b : BtfType) → elements_of a b ≡ None
    → field_answer go' local target l a b ≡ field_answer go local target l a b
others-verdict go go' local target l a b e =
    answer_same go go' local local target target l a b refl
    (λ is_a is_b. absurd (no_arrays a b e is_a is_b))

one_fewer : (n i : ℕ) → i < n → n - i ≡ suc (n - (i + 1))
one_fewer n i lt = omega arith

pub rounds_over : (local target : Table) (asked : ℕ) (p : ℕ × ℕ) (n : ℕ) → n ≡ 0 → fields_compared n local target asked p ≡ Err (MaximumTypeDepthReached asked)
unfolding fields_compared
rounds_over local target asked p n e = rw e refl

pub round_left : (local target : Table) (asked x y n i : ℕ) (e : BtfError) → i < n → Err e ≡ chain_end max_depth local asked x → fields_compared (n - i) local target asked (x, y) ≡ Err e
unfolding fields_compared
round_left local target asked x y n i e lt left = rw (one_fewer n i lt, sym left) refl

pub round_right : (local target : Table) (asked x y n i l : ℕ) (e : BtfError) → i < n → Ok l ≡ chain_end max_depth local asked x → Err e ≡ chain_end max_depth target asked y → fields_compared (n - i) local target asked (x, y) ≡ Err e
unfolding fields_compared
round_right local target asked x y n i l e lt left right = rw (one_fewer n i lt, sym left, sym right) refl

done_at : (local target : Table) (asked x y n i l r : ℕ) (go : ℕ × ℕ → Result Bool BtfError) → i < n → Ok l ≡ chain_end max_depth local asked x → Ok r ≡ chain_end max_depth target asked y → elements_of (record_at local l) (record_at target r) ≡ None
    → fields_compared (n - i) local target asked (x, y) ≡ field_answer go local target l (record_at local l) (record_at target r)
unfolding fields_compared
done_at local target asked x y n i l r go lt left right none = rw (one_fewer n i lt, sym left, sym right) (others-verdict go (fields_compared (n - (i + 1)) local target asked) local target l (record_at local l) (record_at target r) none)

pub round_done : (local target : Table) (asked x y n i l r : ℕ) (go : ℕ × ℕ → Result Bool BtfError) (a b : BtfType) (answer : Result Bool BtfError) → i < n → Ok l ≡ chain_end max_depth local asked x → Ok r ≡ chain_end max_depth target asked y → a ≡ record_at local l → b ≡ record_at target r → None ≡ elements_of a b
    → answer ≡ field_answer go local target l a b → answer ≡ fields_compared (n - i) local target asked (x, y)
round_done local target asked x y n i l r go a b answer lt left right is_a is_b none e =
    let none_at : elements_of (record_at local l) (record_at target r) ≡ None = sym (none ∙ (ap (λ (t : BtfType). elements_of t b) is_a ∙ ap (elements_of (record_at local l)) is_b)) in
    e
    ∙ (ap (λ (t : BtfType). field_answer go local target l t b) is_a
    ∙ (ap (field_answer go local target l (record_at local l)) is_b ∙ sym (done_at local target asked x y n i l r go lt left right none_at)))

pub round_more : (local target : Table) (asked x y n i l r v w : ℕ) → i < n → Ok l ≡ chain_end max_depth local asked x → Ok r ≡ chain_end max_depth target asked y → elements_of (record_at local l) (record_at target r) ≡ Some (v, w)
    → fields_compared (n - i) local target asked (x, y) ≡ fields_compared (n - (i + 1)) local target asked (v, w)
unfolding fields_compared
round_more local target asked x y n i l r v w lt left right some = rw (one_fewer n i lt, sym left, sym right) (arrays-verdict (fields_compared (n - (i + 1)) local target asked) local target l (record_at local l) (record_at target r) v w some)

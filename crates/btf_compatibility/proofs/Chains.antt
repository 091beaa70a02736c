-- The ends of chains of modifiers depend on the records that the chains reach.
use Rattle.std.proofs.Common.{◌≡◌, ℕ, zero, suc, Bool, true, List, [], ◌∷◌, ◌++◌, All, IfSome, Option, None, Some, Result, Ok, Err, refl, sym, ap, subst, ◌∙◌}
use Rattle.std.proofs.lemmas.List.Elements.{All-cons, All-head, All-nil, All-tail}
use Rattle.std.specs.Option.{option_map_or, option_to_list, unwrap_or}
use Rattle.btf_tables.specs.Agreement.{AgreeOn}
use Rattle.btf_tables.specs.ResolvedTypes.{chain_end, end_from, max_depth, modified_type}
use Rattle.btf_tables.specs.Tables.{Table, type_by_id}
use Rattle.btf_compatibility.specs.TypeCompatibility.{after_modifiers, both_ends, record_at}
use Rattle.btf_compatibility.proofs.Ids.{IsKnown, end-known}
use Rattle.btf_records.specs.declared.error.BtfError.{BtfError}
use Rattle.btf_records.specs.declared.types.BtfType.{BtfType}
use Rattle.btf_records.specs.declared.types.BtfType.TheVariants as types

-- All these ids are reached.
abbrev pub AllReached : (ℕ → Bool) → List ℕ → Type 0
AllReached reached ids = All (λ id. reached id ≡ true) ids

abbrev pub AreReached : (ℕ → Bool) → (ℕ → Bool) → (ℕ × ℕ) → Type 0
AreReached left right p = (left p.0 ≡ true) × (right p.1 ≡ true)

front : (P : ℕ → Type 0) (xs ys : List ℕ) → All P (xs ++ ys) → All P xs
front P [] ys h = All-nil P
front P (x ∷ xs) ys h =
    All-cons P x xs (All-head P x (xs ++ ys) h) (front P xs ys (All-tail P x (xs ++ ys) h))

after : (P : ℕ → Type 0) (xs ys : List ℕ) → All P (xs ++ ys) → All P ys
after P [] ys h = h
after P (x ∷ xs) ys h = after P xs ys (All-tail P x (xs ++ ys) h)

-- A chain has the same end in both tables, and the end is reached.
record IsSameEnd (reached : ℕ → Bool) (here there : Result ℕ BtfError) : Type 0 where
  same : there ≡ here
  ends : (end : ℕ) → here ≡ Ok end → reached end ≡ true

both_same : (left right : ℕ → Bool) (go go' : ℕ → ℕ → Result Bool BtfError)
    (x x' y y' : Result ℕ BtfError) → IsSameEnd left x x' → IsSameEnd right y y'
    → ((l r : ℕ) → x ≡ Ok l → y ≡ Ok r → AreReached left right (l, r) → go' l r ≡ go l r)
    → both_ends go' x' y' ≡ both_ends go x y
both_same left right go go' x x' y y' first second h =
    ap (λ (z : Result ℕ BtfError). both_ends go' z y') first.same
    ∙ (ap (both_ends go' x) second.same ∙ by x y refl refl)
  where
    by : (v w : Result ℕ BtfError) → x ≡ v → y ≡ w → both_ends go' v w ≡ both_ends go v w
    by (Err e) w is_x is_y = refl
    by (Ok l) (Err e) is_x is_y = refl
    by (Ok l) (Ok r) is_x is_y = h l r is_x is_y (first.ends l is_x, second.ends r is_y)

-- Comparisons that follow modifiers, and then the ids that `more` gives.
module _ (more : BtfType → List ℕ) (none : more types.Unknown ≡ []) where
  abbrev pub followed : BtfType → List ℕ
  followed t = option_to_list (modified_type t) ++ more t

  module _ (reached : ℕ → Bool) where
    from_same : (go go' : ℕ → Result ℕ BtfError) (id : ℕ) (t : Option BtfType)
        → reached id ≡ true
        → ((next : ℕ) → reached next ≡ true → IsSameEnd reached (go next) (go' next))
        → IfSome t (λ u. AllReached reached (followed u))
        → IsSameEnd reached (end_from go id t) (end_from go' id t)
    from_same go go' id None here h closed =
        record { same = refl; ends = λ end e. absurd cc }
    from_same go go' id (Some t) here h closed =
        by (modified_type t)
        (front (λ x. reached x ≡ true) (option_to_list (modified_type t)) (more t) closed)
      where
        by : (modified : Option ℕ) → AllReached reached (option_to_list modified)
            → IsSameEnd reached (option_map_or go modified (Ok id))
            (option_map_or go' modified (Ok id))
        by None all = record {
          same = refl;
          ends = λ end e.
              subst (λ (x : ℕ). reached x ≡ true) (let same : id ≡ end = cc in same) here;
        }
        by (Some next) all = h next (All-head (λ x. reached x ≡ true) next [] all)

    module _ (one other : Table) (agree : AgreeOn followed reached one other) where
      chain_same : (n asked id : ℕ) → reached id ≡ true
          → IsSameEnd reached (chain_end n one asked id) (chain_end n other asked id)
      unfolding chain_end
      chain_same zero asked id here = record { same = refl; ends = λ end e. absurd cc }
      chain_same (suc n) asked id here =
          let step = from_same (chain_end n one asked) (chain_end n other asked) id
          (type_by_id one id) here (chain_same n asked) (agree.closed id here) in
          record {
            same = ap (end_from (chain_end n other asked) id) (agree.same id here) ∙ step.same;
            ends = step.ends;
          }

      pub record_same : (id : ℕ) → reached id ≡ true → record_at other id ≡ record_at one id
      record_same id here =
          ap (λ (t : Option BtfType). unwrap_or t types.Unknown) (agree.same id here)

      pub more_reached : (id : ℕ) → reached id ≡ true
          → AllReached reached (more (record_at one id))
      more_reached id here = by (type_by_id one id) (agree.closed id here)
        where
          by : (t : Option BtfType) → IfSome t (λ u. AllReached reached (followed u))
              → AllReached reached (more (unwrap_or t types.Unknown))
          by None closed = rw none (All-nil (λ x. reached x ≡ true))
          by (Some t) closed =
              after (λ x. reached x ≡ true) (option_to_list (modified_type t)) (more t) closed

  pub ends_same : (left right : ℕ → Bool) (local one target other : Table)
      → AgreeOn followed left local one → AgreeOn followed right target other → (asked : ℕ)
      → (go go' : ℕ → ℕ → Result Bool BtfError) (p : ℕ × ℕ) → AreReached left right p
      → ((l r : ℕ) → IsKnown local l → IsKnown target r → AreReached left right (l, r)
      → go' l r ≡ go l r)
      → after_modifiers one other asked go' p ≡ after_modifiers local target asked go p
  ends_same left right local one target other locals targets asked go go' p here h =
      both_same left right go go' (chain_end max_depth local asked p.0)
      (chain_end max_depth one asked p.0) (chain_end max_depth target asked p.1)
      (chain_end max_depth other asked p.1)
      (chain_same left local one locals max_depth asked p.0 here.0)
      (chain_same right target other targets max_depth asked p.1 here.1)
      (λ l r e f. h l r (end-known max_depth local asked p.0 l e)
      (end-known max_depth target asked p.1 r f))

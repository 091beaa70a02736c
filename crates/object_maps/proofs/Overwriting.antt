-- Bytes of a map that are overwritten, in the model of maps.
use Rattle.std.proofs.Common.{◌≡◌, ◌≤◌, ◌+◌, ℕ, Bool, true, false, cond, List, [], ◌∷◌, Option, Some, None, length, map, refl, ap, ap₂, sym, ◌∙◌, subst, unwrap_or}
use Rattle.std.specs.Prelude.{bytes_eq}
use Rattle.std.specs.Borrow.{Bor}
use Rattle.std.specs.BTreeMap.{is_at}
use Rattle.std.specs.Cmp.Lexicographic.{slice_cmp}
use Rattle.std.specs.declared.cmp.Ordering.TheVariants.{Less}
use Rattle.std.specs.List.{AllByRecursion}
use Rattle.std.specs.List.Sorted.{IsStrictlySortedBy}
use Rattle.std.specs.Map.{keys_of, lookup, set_value}
use Rattle.std.specs.Option.{IsSomeAnd, option_map}
use Rattle.std.specs.Ordering.{is_eq, nat_cmp}
use Rattle.std.proofs.lemmas.Map.Text.{is_eq-slice_cmp}
use Rattle.std.proofs.lemmas.Slice.Eq.{bytes_eq-Decides}
use Rattle.ebpf_items.specs.Maps.{MapView, map_view}
use Rattle.ebpf_items.specs.declared.maps.Map.{Map}
use Rattle.object_maps.specs.Maps.{entry_shown, shown}
use Rattle.object_maps.specs.Overwritten.{HasRange, entry_overwritten, map_overwritten, with_bytes}
use Rattle.object_maps.proofs.Views.{is_key, name_cmp, shown_at}

-- All names are above one.
abbrev Above : Bor (List ℕ) → List (Bor (List ℕ) × Map) → Type 0
Above low entries = AllByRecursion (λ name. name_cmp low name ≡ Less) (keys_of entries)

below-differs : (a b : List ℕ) → slice_cmp nat_cmp a b ≡ Less → bytes_eq a b ≡ false
below-differs a b less = sym (is_eq-slice_cmp a b) ∙ ap is_eq less

entry-by : (name : List ℕ) (start : ℕ) (bytes : List ℕ) (e : Bor (List ℕ) × Map) (test : Bool) → bytes_eq name e.0.now ≡ test → entry_overwritten name start bytes (entry_shown e) ≡ cond test (e.0.now, map_overwritten start bytes (map_view e.1)) (entry_shown e)
entry-by name start bytes e test is = ap (λ (t : Bool). cond t (e.0.now, map_overwritten start bytes (map_view e.1)) (entry_shown e)) is

-- Maps of other names stay.
others : (name : Bor (List ℕ)) (start : ℕ) (bytes : List ℕ) (entries : List (Bor (List ℕ) × Map)) → Above name entries → map (entry_overwritten name.now start bytes) (shown entries) ≡ shown entries
others name start bytes [] above = refl
others name start bytes (e ∷ es) above =
    ap₂ (λ (x : List ℕ × MapView) (xs : List (List ℕ × MapView)). x ∷ xs)
    (entry-by name.now start bytes e false (below-differs name.now e.0.now above.0))
    (others name start bytes es above.1)

unwrapped : (v w : Map) → Some v ≡ Some w → v ≡ w
unwrapped v w h = ap (λ (o : Option Map). unwrap_or o v) h

module _ (name : List ℕ) (start : ℕ) (bytes : List ℕ) (old new : Map) (is : map_view new ≡ map_overwritten start bytes (map_view old)) where
  exchanged : (entries : List (Bor (List ℕ) × Map)) → IsStrictlySortedBy name_cmp (keys_of entries) → lookup (is_key name) entries ≡ Some old → shown (set_value (is_key name) entries new) ≡ map (entry_overwritten name start bytes) (shown entries)
  unfolding IsStrictlySortedBy
  exchanged [] rising found = refl
  exchanged (e ∷ es) rising found = by (is_key name e.0) refl found (λ there. exchanged es rising.1 there) where
    by : (test : Bool) → is_key name e.0 ≡ test → cond test (Some e.1) (lookup (is_key name) es) ≡ Some old → (lookup (is_key name) es ≡ Some old → shown (set_value (is_key name) es new) ≡ map (entry_overwritten name start bytes) (shown es)) → shown (cond test ((e.0, new) ∷ es) (e ∷ set_value (is_key name) es new)) ≡ map (entry_overwritten name start bytes) (shown (e ∷ es))
    by true here found later =
        let same : bytes_eq name e.0.now ≡ true = sym (is_eq-slice_cmp name e.0.now) ∙ here in
        ap₂ (λ (x : List ℕ × MapView) (xs : List (List ℕ × MapView)). x ∷ xs)
        (ap (λ (v : MapView). (e.0.now, v)) (is ∙ ap (λ (m : Map). map_overwritten start bytes (map_view m)) (sym (unwrapped e.1 old found))) ∙ sym (entry-by name start bytes e true same))
        (sym (subst (λ (n : List ℕ). map (entry_overwritten n start bytes) (shown es) ≡ shown es) (sym ((bytes_eq-Decides name e.0.now).0 same)) (others e.0 start bytes es rising.0)))
    by false there found later =
        ap₂ (λ (x : List ℕ × MapView) (xs : List (List ℕ × MapView)). x ∷ xs)
        (sym (entry-by name start bytes e false (sym (is_eq-slice_cmp name e.0.now) ∙ there)))
        (later found)

  pub overwritten_shown : (entries : List (Bor (List ℕ) × Map)) → IsStrictlySortedBy name_cmp (keys_of entries) → lookup (is_key name) entries ≡ Some old → shown (set_value (is_key name) entries new) ≡ with_bytes (shown entries) name start bytes
  unfolding with_bytes
  overwritten_shown entries rising found = exchanged entries rising found

pub has_range : (name : List ℕ) (start size : ℕ) (entries : List (Bor (List ℕ) × Map)) (found : Option Map) → found ≡ lookup (is_key name) entries → HasRange (shown entries) name start size → IsSomeAnd found (λ m. start + size ≤ length (map_view m).contents)
has_range name start size entries found is range = by found (shown_at name entries ∙ ap (option_map map_view) (sym is)) where
  by : (o : Option Map) → lookup (is_at (slice_cmp nat_cmp name)) (shown entries) ≡ option_map map_view o → IsSomeAnd o (λ m. start + size ≤ length (map_view m).contents)
  by (Some m) same = subst (λ o. IsSomeAnd o (λ x. start + size ≤ length x.contents)) same range
  by None same = subst (λ o. IsSomeAnd o (λ x. start + size ≤ length x.contents)) same range

-- Maps by name, in the model of contracts.
use Rattle.std.proofs.Common.{◌≡◌, ℕ, suc, Bool, true, false, cond, List, [], ◌∷◌, map, length, Option, Some, None, refl, ap, ◌∙◌}
use Rattle.std.specs.Borrow.{Bor}
use Rattle.std.specs.BTreeMap.{insert_entry, is_at}
use Rattle.std.specs.Cmp.Lexicographic.{slice_cmp}
use Rattle.std.specs.List.{AllByRecursion, AllZip}
use Rattle.std.specs.List.Sorted.{IsStrictlySortedBy}
use Rattle.std.specs.Map.{keys_of, lookup}
use Rattle.std.specs.Option.{option_copied, option_map}
use Rattle.std.specs.Ordering.{match_ordering, nat_cmp}
use Rattle.std.specs.declared.cmp.Ordering.{Ordering}
use Rattle.std.specs.declared.cmp.Ordering.TheVariants.{Less, Equal, Greater}
use Rattle.ebpf_items.specs.Maps.{MapView, map_view}
use Rattle.ebpf_items.specs.declared.maps.Map.{Map}
use Rattle.object_maps.specs.Found.{with_map}
use Rattle.object_maps.specs.Maps.{entry_shown, shown}

-- The order of names.
abbrev pub name_cmp : Bor (List ℕ) → Bor (List ℕ) → Ordering
name_cmp x y = slice_cmp nat_cmp x.now y.now

-- Whether a key is the name.
abbrev pub is_key : List ℕ → Bor (List ℕ) → Bool
is_key name = is_at (λ key. slice_cmp nat_cmp name key.now)

-- ---- The map of a name

found-by : (test : Bool) (m : Map) (found : Option Map) (seen : Option MapView) → seen ≡ option_map map_view found → cond test (Some (map_view m)) seen ≡ option_map map_view (cond test (Some m) found)
found-by true m found seen is = refl
found-by false m found seen is = is

pub shown_at : (name : List ℕ) (entries : List (Bor (List ℕ) × Map)) → lookup (is_at (slice_cmp nat_cmp name)) (shown entries) ≡ option_map map_view (lookup (is_key name) entries)
shown_at name [] = refl
shown_at name (e ∷ es) = found-by (is_at (slice_cmp nat_cmp name) e.0.now) e.1 (lookup (is_key name) es) (lookup (is_at (slice_cmp nat_cmp name)) (shown es)) (shown_at name es)

pub copied_view : (r : Option (Bor Map)) → option_map (λ m. map_view m.now) r ≡ option_map map_view (option_copied r)
copied_view None = refl
copied_view (Some m) = refl

-- ---- An insertion

placed : (o : Ordering) (name : Bor (List ℕ)) (m : Map) (e : Bor (List ℕ) × Map) (es rest : List (Bor (List ℕ) × Map)) (more : List (List ℕ × MapView)) → shown rest ≡ more → shown (match_ordering o ((name, m) ∷ e ∷ es) ((e.0, m) ∷ es) (e ∷ rest)) ≡ match_ordering o ((name.now, map_view m) ∷ shown (e ∷ es)) ((e.0.now, map_view m) ∷ shown es) (entry_shown e ∷ more)
placed Less name m e es rest more same = refl
placed Equal name m e es rest more same = refl
placed Greater name m e es rest more same = ap (λ later. entry_shown e ∷ later) same

pub shown_inserted : (entries : List (Bor (List ℕ) × Map)) (name : Bor (List ℕ)) (m : Map) → shown (insert_entry name_cmp entries name m) ≡ with_map (shown entries) (name.now, map_view m)
shown_inserted [] name m = refl
shown_inserted (e ∷ es) name m = placed (name_cmp name e.0) name m e es (insert_entry name_cmp es name m) _ (shown_inserted es name m)

-- ---- Names in order

above : (low : Bor (List ℕ)) (entries : List (Bor (List ℕ) × Map)) → AllByRecursion (λ name. name_cmp low name ≡ Less) (keys_of entries) → AllByRecursion (λ name. slice_cmp nat_cmp low.now name ≡ Less) (map (λ e. e.0) (shown entries))
above low [] all = tt
above low (e ∷ es) all = (all.0, above low es all.1)

pub shown_rising : (entries : List (Bor (List ℕ) × Map)) → IsStrictlySortedBy name_cmp (keys_of entries) → IsStrictlySortedBy (slice_cmp nat_cmp) (map (λ e. e.0) (shown entries))
unfolding IsStrictlySortedBy
shown_rising [] rising = tt
shown_rising (e ∷ es) rising = (above e.0 es rising.0, shown_rising es rising.1)

pub shown_long : (entries : List (Bor (List ℕ) × Map)) → length entries ≡ length (shown entries)
shown_long [] = refl
shown_long (e ∷ es) = ap suc (shown_long es)

-- ---- Copies have the same names and maps

pub same_shown : (ms ns : List (Bor (List ℕ) × Map)) → AllZip (λ p q. (q.0 ≡ p.0) × (map_view q.1 ≡ map_view p.1)) ms ns → shown ns ≡ shown ms
same_shown [] [] same = refl
same_shown [] (n ∷ ns) same = absurd same
same_shown (m ∷ ms) [] same = absurd same
same_shown (m ∷ ms) (n ∷ ns) same =
    ap (λ (key : Bor (List ℕ)). (key.now, map_view n.1) ∷ shown ns) same.0.0
    ∙ ap (λ (v : MapView). (m.0.now, v) ∷ shown ns) same.0.1
    ∙ ap (λ (es : List (List ℕ × MapView)). (m.0.now, map_view m.1) ∷ es) (same_shown ms ns same.1)

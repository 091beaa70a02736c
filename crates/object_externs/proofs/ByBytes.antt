-- Maps with names as keys, and their entries with the bytes of the names as keys.
use Rattle.std.proofs.Common.{◌≡◌, ◌↔◌, ℕ, Bool, true, false, cond, List, [], ◌∷◌, length, map, Option, Some, refl, ap}
use Rattle.std.specs.Prelude.{IsTrue}
use Rattle.std.specs.Borrow.{Bor}
use Rattle.std.specs.BTreeMap.{insert_entry, is_at}
use Rattle.std.specs.Cmp.Lexicographic.{slice_cmp}
use Rattle.std.specs.List.{AllByRecursion}
use Rattle.std.specs.List.Sorted.{IsStrictlySortedBy}
use Rattle.std.specs.Map.{keys_of, lookup}
use Rattle.std.specs.Ordering.{match_ordering, nat_cmp}
use Rattle.std.specs.declared.cmp.Ordering.{Ordering}
use Rattle.std.specs.declared.cmp.Ordering.TheVariants.{Less, Equal, Greater}
use Rattle.object_externs.specs.Names.{by_bytes}

-- The order of names.
abbrev pub name_cmp : Bor (List ℕ) → Bor (List ℕ) → Ordering
name_cmp x y = slice_cmp nat_cmp x.now y.now

placed : {V : Type 0} (o : Ordering) (name : Bor (List ℕ)) (value : V) (e : Bor (List ℕ) × V) (es rest : List (Bor (List ℕ) × V)) (more : List (List ℕ × V)) → by_bytes rest ≡ more → by_bytes (match_ordering o ((name, value) ∷ e ∷ es) ((e.0, value) ∷ es) (e ∷ rest)) ≡ match_ordering o ((name.now, value) ∷ by_bytes (e ∷ es)) ((e.0.now, value) ∷ by_bytes es) ((e.0.now, e.1) ∷ more)
placed Less name value e es rest more same = refl
placed Equal name value e es rest more same = refl
placed Greater name value e es rest more same = ap (λ later. (e.0.now, e.1) ∷ later) same

-- The entries after an insertion.
pub inserted : {V : Type 0} (entries : List (Bor (List ℕ) × V)) (name : Bor (List ℕ)) (value : V) → by_bytes (insert_entry name_cmp entries name value) ≡ insert_entry (slice_cmp nat_cmp) (by_bytes entries) name.now value
inserted [] name value = refl
inserted (e ∷ es) name value = placed (name_cmp name e.0) name value e es (insert_entry name_cmp es name value) _ (inserted es name value)

above : {V : Type 0} (low : Bor (List ℕ)) (entries : List (Bor (List ℕ) × V)) → AllByRecursion (λ name. name_cmp low name ≡ Less) (keys_of entries) → AllByRecursion (λ name. slice_cmp nat_cmp low.now name ≡ Less) (map (λ e. e.0) (by_bytes entries))
above low [] all = tt
above low (e ∷ es) all = (all.0, above low es all.1)

-- Names in strictly ascending order, by their bytes.
pub rising_bytes : {V : Type 0} (entries : List (Bor (List ℕ) × V)) → IsStrictlySortedBy name_cmp (keys_of entries) → IsStrictlySortedBy (slice_cmp nat_cmp) (map (λ e. e.0) (by_bytes entries))
unfolding IsStrictlySortedBy
rising_bytes [] rising = tt
rising_bytes (e ∷ es) rising = (above e.0 es rising.0, rising_bytes es rising.1)

-- Whether there is no entry.
pub none_of : {V : Type 0} (entries : List (Bor (List ℕ) × V)) (b : Bool) → IsTrue b ↔ (length entries ≡ 0) → IsTrue b ↔ (by_bytes entries ≡ [])
none_of [] b is = ((λ h. refl), (λ h. is.1 refl))
none_of (e ∷ es) b is = ((λ h. absurd (cc (is.0 h))), (λ h. absurd cc))

chosen : {V : Type 0} (test : Bool) (v : V) (a b : Option V) → a ≡ b → cond test (Some v) a ≡ cond test (Some v) b
chosen true v a b same = refl
chosen false v a b same = same

-- The value of a name.
pub value_bytes : {V : Type 0} (name : List ℕ) (entries : List (Bor (List ℕ) × V)) → lookup (is_at (λ key. slice_cmp nat_cmp name key.now)) entries ≡ lookup (is_at (slice_cmp nat_cmp name)) (by_bytes entries)
value_bytes name [] = refl
value_bytes name (e ∷ es) = chosen (is_at (slice_cmp nat_cmp name) e.0.now) e.1 (lookup (is_at (λ key. slice_cmp nat_cmp name key.now)) es) (lookup (is_at (slice_cmp nat_cmp name)) (by_bytes es)) (value_bytes name es)

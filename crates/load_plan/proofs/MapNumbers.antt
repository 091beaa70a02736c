-- Numbers that are set for maps one after the other.
use Rattle.std.proofs.Common.{◌≡◌, ◌==◌, ◌||◌, ◌&&◌, ◌<◌, ◌≤◌, ◌+◌, ◌⊎◌, inl, inr, ℕ, Bool, true, false, cond, List, [], ◌∷◌, ◌++◌, Option, None, Some, refl, ap, sym, subst, ◌∙◌, append_assoc, append-nil, arith}
use Rattle.std.proofs.Math.Bool.{or-false}
use Rattle.std.proofs.lemmas.Bool.{eq-eqb}
use Rattle.std.proofs.lemmas.Bool.Decides.{nat_tests}
use Rattle.std.proofs.lemmas.Slice.Eq.{bytes_eq-Decides}
use Rattle.std.specs.Prelude.{bytes_eq, is_none}
use Rattle.std.specs.BTreeSet.{BTreeSet, contains}
use Rattle.std.specs.List.{list_any}
use Rattle.std.specs.Option.{MatchOption, option_map_or}
use Rattle.std.specs.Ordering.{nat_cmp}
use Rattle.ebpf_items.specs.Maps.{MapView}
use Rattle.settings.specs.Content.{SettingsContent}
use Rattle.load_plan.proofs.ByName.{at_inserted, same_text}
use Rattle.load_plan.specs.Numbering.{AreNumbered, IsKept, IsLeastFree, is_taken, names_of, set_number, with_number}

-- Whether a map has a number.
abbrev pub has : SettingsContent → ℕ → List ℕ → Bool
has settings number name = option_map_or (λ n. n == number) (set_number settings name) false

or-assoc : (a b c : Bool) → ((a || b) || c) ≡ (a || (b || c))
or-assoc true b c = refl
or-assoc false b c = refl

or-true : (a : Bool) → (a || true) ≡ true
or-true true = refl
or-true false = refl

-- ---- The numbers that are set.

pub one_added : (used more : ℕ → Bool) (name : List ℕ) (map : MapView) (rest all : List (List ℕ × MapView)) (items : List (List ℕ × MapView)) (s : SettingsContent) → items ≡ (name, map) ∷ rest → ((n : ℕ) → more n ≡ (used n || has s n name)) → ((n : ℕ) → (used n || is_taken (names_of items) s n) ≡ is_taken (names_of all) s n) → (n : ℕ) → (more n || is_taken (names_of rest) s n) ≡ is_taken (names_of all) s n
one_added used more name map rest all items s is added before n =
    ap (λ b. b || is_taken (names_of rest) s n) (added n)
    ∙ or-assoc (used n) (has s n name) (is_taken (names_of rest) s n)
    ∙ ap (λ ms. used n || is_taken (names_of ms) s n) (sym is)
    ∙ before n

pub all_added : (used : ℕ → Bool) (rest all : List (List ℕ × MapView)) (s : SettingsContent) → rest ≡ [] → ((n : ℕ) → (used n || is_taken (names_of rest) s n) ≡ is_taken (names_of all) s n) → (n : ℕ) → used n ≡ is_taken (names_of all) s n
all_added used rest all s none before n = sym (or-false (used n)) ∙ ap (λ ms. used n || is_taken (names_of ms) s n) (sym none) ∙ before n

-- ---- The numbers after one more is set.

mixed : (h t e b l : Bool) → ((h || (e && b)) || (t || (e && l))) ≡ ((h || t) || (e && (b || l)))
mixed true t e b l = refl
mixed false true true true l = refl
mixed false false true true l = refl
mixed false t true false l = refl
mixed false t false b l = refl

module _ (s : SettingsContent) (name : List ℕ) (n k : ℕ) (none : set_number s name ≡ None) where
  has-by : (same : Bool) (x : List ℕ) → bytes_eq name x ≡ same → option_map_or (λ m. m == k) (cond same (Some n) (set_number s x)) false ≡ (has s k x || ((n == k) && same))
  has-by true x is =
      let absent : set_number s x ≡ None = ap (set_number s) (sym (same_text name x is)) ∙ none in
      rw absent (sym (by (n == k))) where
        by : (b : Bool) → (b && true) ≡ b
        by true = refl
        by false = refl
  has-by false x is = sym (by (has s k x) (n == k)) where
    by : (a b : Bool) → (a || (b && false)) ≡ a
    by true b = refl
    by false true = refl
    by false false = refl

  taken-more : (names : List (List ℕ)) → is_taken names (with_number s name n) k ≡ (is_taken names s k || ((n == k) && list_any (λ x. bytes_eq name x) names))
  taken-more [] = sym (by (n == k)) where
    by : (b : Bool) → (b && false) ≡ false
    by true = refl
    by false = refl
  taken-more (x ∷ xs) =
      ap (λ b. b || is_taken xs (with_number s name n) k) (ap (λ o. option_map_or (λ m. m == k) o false) (at_inserted name n s.maps x) ∙ has-by (bytes_eq name x) x refl)
      ∙ ap (λ b. (has s k x || ((n == k) && bytes_eq name x)) || b) (taken-more xs)
      ∙ mixed (has s k x) (is_taken xs s k) (n == k) (bytes_eq name x) (list_any (λ y. bytes_eq name y) xs)

any-here : (name : List ℕ) (map : MapView) (front more : List (List ℕ × MapView)) → list_any (λ x. bytes_eq name x) (names_of (front ++ (name, map) ∷ more)) ≡ true
any-here name map [] more = ap (λ b. b || list_any (λ x. bytes_eq name x) (names_of more)) ((bytes_eq-Decides name name).1 refl)
any-here name map (f ∷ front) more = ap (λ b. bytes_eq name f.0 || b) (any-here name map front more) ∙ or-true (bytes_eq name f.0)

-- ---- The loop.

below : (a b : ℕ) → (a < b) ⊎ (b ≤ a)
below a b = grind arith

last_or_less : (k n : ℕ) → k < n + 1 → (k < n) ⊎ (k ≡ n)
last_or_less k n less = by (below k n) where
  by : (k < n) ⊎ (n ≤ k) → (k < n) ⊎ (k ≡ n)
  by (inl l) = inl l
  by (inr le) = inr (omega (arith, less, le))

same_number : (a b : ℕ) → a ≡ b → (a == b) ≡ true
same_number a b is = eq-eqb a b is

apart : (a b : ℕ) → a + 1 ≤ b → (a == b) ≡ false
apart a b le = grind (arith, nat_tests)

pub record IsNumbering (all rest : List (List ℕ × MapView)) (used : BTreeSet ℕ) (number : ℕ) (first now : SettingsContent) : Type 0 where
  pub front : List (List ℕ × MapView)
  pub split : all ≡ front ++ rest
  pub low : (k : ℕ) → k < number → is_taken (names_of all) now k ≡ true
  pub high : (k : ℕ) → number ≤ k → contains nat_cmp used k ≡ is_taken (names_of all) now k
  pub numbered : (last : SettingsContent) → AreNumbered (names_of all) (names_of rest) now last → AreNumbered (names_of all) (names_of all) first last
  pub kept : IsKept first now

pub same_kept : (s : SettingsContent) → IsKept s s
same_kept s = record { numbers = λ name number is. is; values = refl }

pub begun : (all rest : List (List ℕ × MapView)) (used : BTreeSet ℕ) (s : SettingsContent) → rest ≡ all → ((k : ℕ) → contains nat_cmp used k ≡ is_taken (names_of all) s k) → IsNumbering all rest used 0 s s
begun all rest used s is have = record {
  front = [];
  split = sym is;
  low = λ k less. absurd (omega (arith, less));
  high = λ k le. have k;
  numbered = λ last h. subst (λ ms. AreNumbered (names_of all) (names_of ms) s last) is h;
  kept = same_kept s;
}

moved : (all rest more : List (List ℕ × MapView)) (name : List ℕ) (map : MapView) (front : List (List ℕ × MapView)) → rest ≡ (name, map) ∷ more → all ≡ front ++ rest → all ≡ (front ++ (name, map) ∷ []) ++ more
moved all rest more name map front next split = split ∙ ap (λ l. front ++ l) next ∙ sym (append_assoc front ((name, map) ∷ []) more)

module _ (all rest more : List (List ℕ × MapView)) (name : List ℕ) (map : MapView) (used : BTreeSet ℕ) (number : ℕ) (first now : SettingsContent) (next : rest ≡ (name, map) ∷ more) (before : IsNumbering all rest used number first now) where
  skipped : (o : Option ℕ) (last : SettingsContent) → o ≡ set_number now name → is_none o ≡ false → AreNumbered (names_of all) (names_of more) now last → AreNumbered (names_of all) (names_of rest) now last
  skipped None last is some h = absurd cc
  skipped (Some n) last is some h = rw next (subst (λ o. MatchOption o ((k : ℕ) × IsLeastFree (names_of all) now k × AreNumbered (names_of all) (names_of more) (with_number now name k) last) (λ _. AreNumbered (names_of all) (names_of more) now last)) is h)

  pub one_skipped : (o : Option ℕ) → o ≡ set_number now name → is_none o ≡ false → IsNumbering all more used number first now
  one_skipped o is some = record {
    front = before.front ++ (name, map) ∷ [];
    split = moved all rest more name map before.front next before.split;
    low = before.low;
    high = before.high;
    numbered = λ last h. before.numbered last (skipped o last is some h);
    kept = before.kept;
  }

  module _ (free : ℕ) (later : number ≤ free) (taken : (k : ℕ) → number ≤ k → k < free → contains nat_cmp used k ≡ true) (is-free : contains nat_cmp used free ≡ false) where
    lower : (k : ℕ) → k < free → is_taken (names_of all) now k ≡ true
    lower k less = by (below k number) where
      by : (k < number) ⊎ (number ≤ k) → is_taken (names_of all) now k ≡ true
      by (inl l) = before.low k l
      by (inr le) = sym (before.high k le) ∙ taken k le less

    least : IsLeastFree (names_of all) now free
    least = record { free = sym (before.high free later) ∙ is-free; least = lower }

    module _ (none : set_number now name ≡ None) where
      here : list_any (λ x. bytes_eq name x) (names_of all) ≡ true
      here = ap (λ ms. list_any (λ x. bytes_eq name x) (names_of ms)) (before.split ∙ ap (λ l. before.front ++ l) next) ∙ any-here name map before.front more

      with-one : (k : ℕ) → is_taken (names_of all) (with_number now name free) k ≡ (is_taken (names_of all) now k || (free == k))
      with-one k = taken-more now name free k none (names_of all) ∙ ap (λ b. is_taken (names_of all) now k || ((free == k) && b)) here ∙ ap (λ b. is_taken (names_of all) now k || b) (by (free == k)) where
        by : (b : Bool) → (b && true) ≡ b
        by true = refl
        by false = refl

      assigned : (o : Option ℕ) (last : SettingsContent) → o ≡ set_number now name → o ≡ None → AreNumbered (names_of all) (names_of more) (with_number now name free) last → AreNumbered (names_of all) (names_of rest) now last
      assigned o last is gone h = rw next (subst (λ p. MatchOption p ((k : ℕ) × IsLeastFree (names_of all) now k × AreNumbered (names_of all) (names_of more) (with_number now name k) last) (λ _. AreNumbered (names_of all) (names_of more) now last)) (sym gone ∙ is) (free, least, h))

      still : (x : List ℕ) (m : ℕ) (same : Bool) → bytes_eq name x ≡ same → set_number now x ≡ Some m → cond same (Some free) (set_number now x) ≡ Some m
      still x m true is was = absurd (gone (set_number now name) none (ap (set_number now) (same_text name x is) ∙ was)) where
        gone : (o : Option ℕ) → o ≡ None → o ≡ Some m → ⊥
        gone o p q = cc
      still x m false is was = was

      pub one_numbered : IsNumbering all more used (free + 1) first (with_number now name free)
      one_numbered = record {
        front = before.front ++ (name, map) ∷ [];
        split = moved all rest more name map before.front next before.split;
        low = λ k less. with-one k ∙ raised k (last_or_less k free less);
        high = λ k le. before.high k (omega (arith, le, later)) ∙ sym (with-one k ∙ other k (apart free k le));
        numbered = λ last h. before.numbered last (assigned (set_number now name) last refl none h);
        kept = record {
          numbers = λ x m is. at_inserted name free now.maps x ∙ still x m (bytes_eq name x) refl (before.kept.numbers x m is);
          values = before.kept.values;
        };
      } where
        raised : (k : ℕ) → (k < free) ⊎ (k ≡ free) → (is_taken (names_of all) now k || (free == k)) ≡ true
        raised k (inl l) = ap (λ b. b || (free == k)) (lower k l)
        raised k (inr e) = ap (λ b. is_taken (names_of all) now k || b) (same_number free k (sym e)) ∙ or-true (is_taken (names_of all) now k)

        other : (k : ℕ) → (free == k) ≡ false → (is_taken (names_of all) now k || (free == k)) ≡ is_taken (names_of all) now k
        other k is = ap (λ b. is_taken (names_of all) now k || b) is ∙ or-false (is_taken (names_of all) now k)

pub all_numbered : (all rest : List (List ℕ × MapView)) (used : BTreeSet ℕ) (number : ℕ) (first now : SettingsContent) → rest ≡ [] → IsNumbering all rest used number first now → AreNumbered (names_of all) (names_of all) first now
all_numbered all rest used number first now none before = before.numbered now (rw none refl)

pub no_number : (o : Option ℕ) → is_none o ≡ true → o ≡ None
no_number None h = refl
no_number (Some n) h = absurd cc

-- Installing the changed copies of all functions changes each function.
use Rattle.std.proofs.Common.{◌≡◌, ℕ, Bool, true, false, cond, List, [], ◌∷◌, Option, Some, None, refl, sym, ap, ◌∙◌, is_some}
use Rattle.std.specs.Prelude.{◌||◌, map}
use Rattle.std.proofs.lemmas.Cmp.{nat_cmp_total}
use Rattle.std.specs.BTreeMap.{is_at}
use Rattle.std.specs.Map.{values_of}
use Rattle.std.specs.Option.{option_map, option_or}
use Rattle.std.specs.Ordering.{is_eq, nat_cmp, ordering_reverse, ordering_then}
use Rattle.std.specs.declared.cmp.Ordering.{Ordering}
use Rattle.std.specs.declared.cmp.Ordering.TheVariants.{Less, Equal, Greater}
use Rattle.object_parts.specs.Content.{AreKeyed, FunctionContent, function_at, key_cmp, key_of}
use Rattle.object_parts.specs.Installed.{AreChanged, AreThere, ChangesAreInstalled, Installed, KeepsKeys, installed_at}

abbrev Entry : Type 0
Entry = (ℕ × ℕ) × FunctionContent

-- Whether a function has a key depends on the keys alone.
has_first : (b : Bool) (f : FunctionContent) (o : Option FunctionContent) (rest : Bool) → is_some o ≡ rest → is_some (cond b (Some f) o) ≡ (b || rest)
has_first true f o rest h = refl
has_first false f o rest h = h

-- The test for equal keys is symmetric.
reversed_then : (x y : Ordering) → is_eq (ordering_then (ordering_reverse x) (ordering_reverse y)) ≡ is_eq (ordering_then x y)
reversed_then Less y = refl
reversed_then Equal Less = refl
reversed_then Equal Equal = refl
reversed_then Equal Greater = refl
reversed_then Greater y = refl

pub both_sides : (a b : ℕ × ℕ) → is_at (key_cmp a) b ≡ is_at (key_cmp b) a
both_sides a b =
    ap (λ o. is_eq (ordering_then o (nat_cmp a.1 b.1))) (nat_cmp_total.antisymm a.0 b.0)
    ∙ ap (λ o. is_eq (ordering_then (ordering_reverse (nat_cmp b.0 a.0)) o)) (nat_cmp_total.antisymm a.1 b.1)
    ∙ reversed_then (nat_cmp b.0 a.0) (nat_cmp b.1 a.1)

-- Each function is found under its key.
own_reverse : (o : Ordering) → o ≡ ordering_reverse o → o ≡ Equal
own_reverse Less h = absurd (cc)
own_reverse Equal h = refl
own_reverse Greater h = absurd (cc)

own_number : (n : ℕ) → nat_cmp n n ≡ Equal
own_number n = own_reverse (nat_cmp n n) (nat_cmp_total.antisymm n n)

own_key : (a : ℕ × ℕ) → is_at (key_cmp a) a ≡ true
own_key a = ap (λ o. is_eq (ordering_then o (nat_cmp a.1 a.1))) (own_number a.0) ∙ ap is_eq (own_number a.1)

or_there : (b : Bool) → (b || true) ≡ true
or_there true = refl
or_there false = refl

there_more : (e : Entry) (es : List Entry) (gs : List FunctionContent) → AreThere es gs → AreThere (e ∷ es) gs
there_more e es [] h = tt
there_more e es (g ∷ gs) h = (has_first (is_at (key_cmp (key_of g)) e.0) e.1 (function_at es (key_of g)) true h.0 ∙ or_there (is_at (key_cmp (key_of g)) e.0), there_more e es gs h.1)

is_there : (k : ℕ × ℕ) (e : Entry) (es : List Entry) → k ≡ e.0 → is_some (function_at (e ∷ es) k) ≡ true
is_there k e es same = ap (λ b. is_some (cond b (Some e.1) (function_at es k))) (ap (is_at (key_cmp k)) (sym same) ∙ own_key k)

are_there : (change : FunctionContent → FunctionContent) (es : List Entry) → KeepsKeys change → AreKeyed es → AreThere es (map change (values_of es))
unfolding AreKeyed
are_there change [] stay keyed = tt
are_there change (e ∷ es) stay keyed = (
  is_there (key_of (change e.1)) e es (stay e.1 ∙ sym keyed.0),
  there_more e es (map change (values_of es)) (are_there change es stay keyed.1),
)

-- The function of a key after all changed functions were installed.
changed_first : (change : FunctionContent → FunctionContent) (b : Bool) (f : FunctionContent) (rest o : Option FunctionContent) (after : Option FunctionContent) → after ≡ option_or (option_map change rest) o → cond b (Some (change f)) after ≡ option_or (option_map change (cond b (Some f) rest)) o
changed_first change true f rest o after h = refl
changed_first change false f rest o after h = h

changed_for : (change : FunctionContent → FunctionContent) (es : List Entry) (key : ℕ × ℕ) (o : Option FunctionContent) → KeepsKeys change → AreKeyed es → installed_at (map change (values_of es)) key o ≡ option_or (option_map change (function_at es key)) o
unfolding AreKeyed
changed_for change [] key o stay keyed = refl
changed_for change (e ∷ es) key o stay keyed =
    ap (λ b. cond b (Some (change e.1)) (installed_at (map change (values_of es)) key o)) (ap (λ k. is_at (key_cmp k) key) (stay e.1) ∙ both_sides (key_of e.1) key ∙ ap (is_at (key_cmp key)) (sym keyed.0))
    ∙ changed_first change (is_at (key_cmp key) e.0) e.1 (function_at es key) o (installed_at (map change (values_of es)) key o) (changed_for change es key o stay keyed.1)

or_itself : (change : FunctionContent → FunctionContent) (o : Option FunctionContent) → option_or (option_map change o) o ≡ option_map change o
or_itself change None = refl
or_itself change (Some f) = refl

are_changed : (change : FunctionContent → FunctionContent) (old new : List Entry) → KeepsKeys change → AreKeyed old → Installed old new (map change (values_of old)) → AreChanged change old new
are_changed change old new stay keyed i = record {
  keys = i.keys;
  at = λ key. i.at key ∙ changed_for change old key (function_at old key) stay keyed ∙ or_itself change (function_at old key);
}

pub changes_are_installed : ChangesAreInstalled
changes_are_installed = record { there = are_there; changed = are_changed }

-- Entries whose keys are strictly increasing.
use Rattle.std.proofs.Common.{◌≡◌, Bool, true, false, cond, List, [], ◌∷◌, Option, Some, None, refl, sym, ap, ap₂, ◌∙◌, subst, Ordering, Less, Equal, Greater, is_eq}
use Rattle.std.specs.BTreeMap.{insert_entry, is_at}
use Rattle.std.specs.Cmp.{IsTotalOrder}
use Rattle.std.specs.List.{AllByRecursion}
use Rattle.std.specs.List.Sorted.{IsStrictlySortedBy}
use Rattle.std.specs.Map.{keys_of, lookup}
use Rattle.std.specs.Option.{unwrap_or}
use Rattle.std.specs.Ordering.{match_ordering, ordering_reverse}
use Rattle.std.proofs.lemmas.Cmp.{tied_itself}

-- One more entry keeps the keys in order.

more-by : {K V : Type 0} (P : K → Type 0) (r : Ordering) (k : K) (v : V) (e : K × V) (es more : List (K × V)) → P k
    → P e.0 → AllByRecursion P (keys_of es) → AllByRecursion P (keys_of more)
    → AllByRecursion P (keys_of (match_ordering r ((k, v) ∷ e ∷ es) ((e.0, v) ∷ es) (e ∷ more)))
more-by P Less k v e es more new here rest all = (new, (here, rest))
more-by P Equal k v e es more new here rest all = (here, rest)
more-by P Greater k v e es more new here rest all = (here, all)

all-more : {K V : Type 0} (R : K → K → Ordering) (P : K → Type 0) (es : List (K × V)) (k : K) (v : V) → P k
    → AllByRecursion P (keys_of es) → AllByRecursion P (keys_of (insert_entry R es k v))
all-more R P [] k v new all = (new, tt)
all-more R P (e ∷ es) k v new all =
    more-by P (R k e.0) k v e es (insert_entry R es k v) new all.0 all.1 (all-more R P es k v new all.1)

above : {K : Type 0} {R : K → K → Ordering} (o : IsTotalOrder R) (k x : K) (ks : List K) → R k x ≡ Less
    → AllByRecursion (λ y. R x y ≡ Less) ks → AllByRecursion (λ y. R k y ≡ Less) ks
above o k x [] less all = tt
above o k x (y ∷ ys) less all = (o.trans k x y less all.0, above o k x ys less all.1)

turned : {K : Type 0} {R : K → K → Ordering} (o : IsTotalOrder R) (x y : K) → R x y ≡ Greater → R y x ≡ Less
turned {R = R} o x y greater = o.antisymm y x ∙ ap ordering_reverse greater

sorted-by : {K V : Type 0} {R : K → K → Ordering} (o : IsTotalOrder R) (r : Ordering) (k : K) (v : V) (e : K × V)
    → (es : List (K × V)) → R k e.0 ≡ r → IsStrictlySortedBy R (keys_of (e ∷ es))
    → IsStrictlySortedBy R (keys_of (insert_entry R es k v))
    → IsStrictlySortedBy R (keys_of (match_ordering r ((k, v) ∷ e ∷ es) ((e.0, v) ∷ es) (e ∷ insert_entry R es k v)))
unfolding IsStrictlySortedBy
sorted-by o Less k v e es is sorted more = ((is, above o k e.0 (keys_of es) is sorted.0), sorted)
sorted-by o Equal k v e es is sorted more = sorted
sorted-by {R = R} o Greater k v e es is sorted more =
    (all-more R (λ y. R e.0 y ≡ Less) es k v (turned o k e.0 is) sorted.0, more)

pub sorted-more : {K V : Type 0} {R : K → K → Ordering} (o : IsTotalOrder R) (es : List (K × V)) (k : K) (v : V)
    → IsStrictlySortedBy R (keys_of es) → IsStrictlySortedBy R (keys_of (insert_entry R es k v))
unfolding IsStrictlySortedBy
sorted-more o [] k v sorted = (tt, tt)
sorted-more {R = R} o (e ∷ es) k v sorted = sorted-by o (R k e.0) k v e es refl sorted (sorted-more o es k v sorted.1)

-- Entries with the same keys, and with the same value for each key, are equal.

same-order : (r : Ordering) → is_eq r ≡ true → r ≡ Equal
same-order Less e = cc
same-order Equal e = refl
same-order Greater e = cc

-- No key after the first is equal to the first.
none-after : {K V : Type 0} {R : K → K → Ordering} (o : IsTotalOrder R) (key k : K) (es : List (K × V))
    → R key k ≡ Equal → AllByRecursion (λ y. R k y ≡ Less) (keys_of es) → lookup (is_at (R key)) es ≡ None
none-after o key k [] equal all = refl
none-after {R = R} o key k (e ∷ es) equal all =
    ap (λ (r : Ordering). cond (is_eq r) (Some e.1) (lookup (is_at (R key)) es)) (o.congr key k e.0 equal ∙ all.0)
    ∙ none-after o key k es equal all.1

after-by : {V : Type 0} (at : Bool) (a b : V) (x y : Option V) → cond at (Some b) y ≡ cond at (Some a) x
    → (at ≡ true → (x ≡ None) × (y ≡ None)) → y ≡ x
after-by true a b x y same none = let n = none refl in n.1 ∙ sym n.0
after-by false a b x y same none = same

at-first : {K V : Type 0} {R : K → K → Ordering} (o : IsTotalOrder R) (e : K × V) (es : List (K × V))
    → lookup (is_at (R e.0)) (e ∷ es) ≡ Some e.1
at-first {R = R} o e es =
    ap (λ (r : Ordering). cond (is_eq r) (Some e.1) (lookup (is_at (R e.0)) es)) (tied_itself o e.0)

head-or : {K : Type 0} → K → List K → K
head-or k [] = k
head-or k (x ∷ xs) = x

pub same-entries : {K V : Type 0} {R : K → K → Ordering} (o : IsTotalOrder R) (es fs : List (K × V))
    → IsStrictlySortedBy R (keys_of es) → keys_of fs ≡ keys_of es
    → ((key : K) → lookup (is_at (R key)) fs ≡ lookup (is_at (R key)) es) → fs ≡ es
unfolding IsStrictlySortedBy
same-entries o [] [] sorted keys same = refl
same-entries o [] (f ∷ fs) sorted keys same = absurd (cc)
same-entries o (e ∷ es) [] sorted keys same = absurd (cc)
same-entries {K} {V} {R} o (e ∷ es) (f ∷ fs) sorted keys same =
    let first : f.0 ≡ e.0 = cc in
    let rest : keys_of fs ≡ keys_of es = cc in
    let above-e : AllByRecursion (λ y. R e.0 y ≡ Less) (keys_of fs) =
    subst (AllByRecursion (λ y. R e.0 y ≡ Less)) (sym rest) sorted.0 in
    let P : K → Type 0 =
    λ k. (key : K) → cond (is_eq (R key k)) (Some f.1) (lookup (is_at (R key)) fs) ≡ lookup (is_at (R key)) (e ∷ es) in
    let moved : (key : K) → cond (is_eq (R key e.0)) (Some f.1) (lookup (is_at (R key)) fs) ≡ lookup (is_at (R key))
    (e ∷ es) =
    subst P first same in
    let value : f.1 ≡ e.1 =
    ap (λ (x : Option V). unwrap_or x f.1) (sym (at-first o (e.0, f.1) fs) ∙ moved e.0 ∙ at-first o e es) in
    let others : fs ≡ es =
    same-entries o es fs sorted.1 rest
    (λ key. after-by (is_eq (R key e.0)) e.1 f.1 (lookup (is_at (R key)) es) (lookup (is_at (R key)) fs) (moved key)
    (λ at. let equal : R key e.0 ≡ Equal = same-order
    (R key e.0) at in (none-after o key e.0 es equal sorted.0, none-after o key e.0 fs equal above-e))) in
    ap₂ (λ (k : K) (v : V). (k, v) ∷ fs) first value ∙ ap (λ (xs : List (K × V)). e ∷ xs) others

-- Look-ups in a map, after entries were inserted one after the other.
use Rattle.std.proofs.Common.{◌≡◌, ℕ, ◌==◌, Bool, true, false, cond, List, [], ◌∷◌, Option, Some, None, refl, ap, sym, ◌∙◌, reverse, arith}
use Rattle.std.proofs.lemmas.Bool.Decides.{nat_tests}
use Rattle.std.specs.Prelude.{find, fold}
use Rattle.std.specs.BTreeMap.{insert_entry, is_at}
use Rattle.std.specs.Cmp.{IsTotalOrder, both_ways}
use Rattle.std.specs.Map.{lookup}
use Rattle.std.specs.Option.{option_or}
use Rattle.std.specs.Ordering.{is_eq, match_ordering, nat_cmp, ordering_reverse}
use Rattle.std.specs.declared.cmp.Ordering.{Ordering}
use Rattle.std.specs.declared.cmp.Ordering.TheVariants.{Less, Equal, Greater}
use Rattle.std.proofs.lemmas.Cmp.{nat_cmp_total, ranked}
use Rattle.std.proofs.lemmas.List.{reverse-append}
use Rattle.std.proofs.lemmas.List.Folds.{find-append}
use Rattle.elf64.specs.Relocations.{Relocation}
use Rattle.object_file.specs.Relocations.{last_of_offset, with_relocation}

exchanged : {A : Type 0} (a b : Bool) (x y rest : A) → (a ≡ true → b ≡ true → ⊥) → cond a x (cond b y rest) ≡ cond b y (cond a x rest)
exchanged true true x y rest apart = absurd (apart refl refl)
exchanged true false x y rest apart = refl
exchanged false true x y rest apart = refl
exchanged false false x y rest apart = refl

twice : {A : Type 0} (b : Bool) (x y rest : A) → cond b x rest ≡ cond b x (cond b y rest)
twice true x y rest = refl
twice false x y rest = refl

equal-if : (o : Ordering) → is_eq o ≡ true → o ≡ Equal
equal-if Less h = absurd (cc)
equal-if Equal h = refl
equal-if Greater h = absurd (cc)

same-side : {K : Type 0} {R : K → K → Ordering} → IsTotalOrder R → (q k e : K) → R k e ≡ Equal → R q k ≡ R q e
same-side total q k e equal = total.antisymm q k ∙ ap ordering_reverse (total.congr k e q equal) ∙ sym (total.antisymm q e)

apart-by : {K : Type 0} {R : K → K → Ordering} → IsTotalOrder R → (q k e : K) → R k e ≡ Greater → is_eq (R q e) ≡ true → is_eq (R q k) ≡ true → ⊥
apart-by {K} {R} total q k e greater one other =
    let found : R q e ≡ R k e = total.congr q k e (equal-if (R q k) other) in
    let equal : R q e ≡ Equal = equal-if (R q e) one in
    cc (sym equal ∙ found ∙ greater)

placed : {K X : Type 0} {R : K → K → Ordering} → IsTotalOrder R → (o : Ordering) (q k : K) (v : X) (e : K × X) (es : List (K × X)) → R k e.0 ≡ o → lookup (is_at (R q)) (insert_entry R es k v) ≡ cond (is_eq (R q k)) (Some v) (lookup (is_at (R q)) es) → lookup (is_at (R q)) (match_ordering o ((k, v) ∷ e ∷ es) ((e.0, v) ∷ es) (e ∷ insert_entry R es k v)) ≡ cond (is_eq (R q k)) (Some v) (cond (is_eq (R q e.0)) (Some e.1) (lookup (is_at (R q)) es))
placed total Less q k v e es is later = refl
placed {K} {X} {R} total Equal q k v e es is later =
    let by : is_eq (R q e.0) ≡ is_eq (R q k) = ap is_eq (sym (same-side total q k e.0 is)) in
    ap (λ b. cond b (Some v) (lookup (is_at (R q)) es)) by
    ∙ twice (is_eq (R q k)) (Some v) (Some e.1) (lookup (is_at (R q)) es)
    ∙ ap (λ b. cond (is_eq (R q k)) (Some v) (cond b (Some e.1) (lookup (is_at (R q)) es))) (sym by)
placed {K} {X} {R} total Greater q k v e es is later =
    ap (λ rest. cond (is_eq (R q e.0)) (Some e.1) rest) later
    ∙ exchanged (is_eq (R q e.0)) (is_eq (R q k)) (Some e.1) (Some v) (lookup (is_at (R q)) es) (apart-by total q k e.0 is)

-- A look-up after the insertion of one entry finds the new value iff the keys are equal.
pub lookup_inserted : {K X : Type 0} {R : K → K → Ordering} → IsTotalOrder R → (q k : K) (v : X) (es : List (K × X)) → lookup (is_at (R q)) (insert_entry R es k v) ≡ cond (is_eq (R q k)) (Some v) (lookup (is_at (R q)) es)
lookup_inserted total q k v [] = refl
lookup_inserted {K} {X} {R} total q k v (e ∷ es) = placed total (R k e.0) q k v e es refl (lookup_inserted total q k v es)

-- ---- Relocations by offset

same-number : (a b : ℕ) → is_eq (nat_cmp a b) ≡ true → (b == a) ≡ true
same-number a b h =
    let same : a ≡ b = ranked a b Equal (sym (equal-if (nat_cmp a b) h)) in
    grind (arith, nat_tests)

own-reverse : (o : Ordering) → o ≡ ordering_reverse o → is_eq o ≡ true
own-reverse Less h = absurd (cc)
own-reverse Equal h = refl
own-reverse Greater h = absurd (cc)

number-same : (a b : ℕ) → (b == a) ≡ true → is_eq (nat_cmp a b) ≡ true
number-same a b h =
    let same : b ≡ a = grind (arith, nat_tests) in
    rw same (own-reverse (nat_cmp a a) (nat_cmp_total.antisymm a a))

same-offset : (a b : ℕ) → is_eq (nat_cmp a b) ≡ (b == a)
same-offset a b = both_ways (is_eq (nat_cmp a b)) (b == a) (same-number a b) (number-same a b)

joined : (found : Option Relocation) (b : Bool) (r : Relocation) (rest : Option Relocation) → option_or found (cond b (Some r) rest) ≡ option_or (option_or found (cond b (Some r) None)) rest
joined (Some f) b r rest = refl
joined None true r rest = refl
joined None false r rest = refl

last-more : (r : Relocation) (rs : List Relocation) (offset : ℕ) → last_of_offset (r ∷ rs) offset ≡ option_or (last_of_offset rs offset) (cond (r.offset == offset) (Some r) None)
last-more r rs offset =
    ap (find (λ x. x.offset == offset)) (reverse-append (r ∷ []) rs)
    ∙ find-append (λ x. x.offset == offset) (reverse rs) (r ∷ [])

by-last : (entries : List (ℕ × Relocation)) (rs : List Relocation) (offset : ℕ) → lookup (is_at (nat_cmp offset)) (fold with_relocation entries rs) ≡ option_or (last_of_offset rs offset) (lookup (is_at (nat_cmp offset)) entries)
by-last entries [] offset = refl
by-last entries (r ∷ rs) offset =
    by-last (with_relocation entries r) rs offset
    ∙ ap (option_or (last_of_offset rs offset)) (lookup_inserted nat_cmp_total offset r.offset r entries)
    ∙ ap (λ b. option_or (last_of_offset rs offset) (cond b (Some r) (lookup (is_at (nat_cmp offset)) entries))) (same-offset offset r.offset)
    ∙ joined (last_of_offset rs offset) (r.offset == offset) r (lookup (is_at (nat_cmp offset)) entries)
    ∙ ap (λ o. option_or o (lookup (is_at (nat_cmp offset)) entries)) (sym (last-more r rs offset))

or-none : {X : Type 0} (o : Option X) → option_or o None ≡ o
or-none (Some x) = refl
or-none None = refl

-- The look-up of an offset finds the last relocation with that offset.
pub last_stands : (rs : List Relocation) (offset : ℕ) → lookup (is_at (nat_cmp offset)) (fold with_relocation [] rs) ≡ last_of_offset rs offset
last_stands rs offset = by-last [] rs offset ∙ or-none (last_of_offset rs offset)

-- Numbers that are inserted by name, and what a name has then.
use Rattle.std.proofs.Common.{◌≡◌, ℕ, Bool, true, false, cond, List, [], ◌∷◌, Option, Some, refl, ap, sym, ◌∙◌}
use Rattle.std.specs.Prelude.{bytes_eq}
use Rattle.std.specs.BTreeMap.{insert_entry, is_at}
use Rattle.std.specs.Cmp.Lexicographic.{slice_cmp}
use Rattle.std.specs.Map.{lookup}
use Rattle.std.specs.Ordering.{is_eq, match_ordering, nat_cmp}
use Rattle.std.specs.declared.cmp.Ordering.{Ordering}
use Rattle.std.specs.declared.cmp.Ordering.TheVariants.{Less, Equal, Greater}
use Rattle.std.proofs.lemmas.Map.Lookups.{exact_bytes}
use Rattle.std.proofs.lemmas.Map.Text.{is_eq-slice_cmp}
use Rattle.std.proofs.lemmas.Slice.Eq.{bytes_eq-Decides}

abbrev order : List ℕ → List ℕ → Ordering
order = slice_cmp nat_cmp

abbrev at : {V : Type 0} → List ℕ → List (List ℕ × V) → Option V
at name es = lookup (is_at (slice_cmp nat_cmp name)) es

pub same_text : (a b : List ℕ) → bytes_eq a b ≡ true → a ≡ b
same_text a b h = (bytes_eq-Decides a b).0 h

text-self : (a : List ℕ) → bytes_eq a a ≡ true
text-self a = (bytes_eq-Decides a a).1 refl

head : {V : Type 0} (name : List ℕ) (e : List ℕ × V) (es : List (List ℕ × V)) → at name (e ∷ es) ≡ cond (bytes_eq name e.0) (Some e.1) (at name es)
head name e es = ap (λ b. cond b (Some e.1) (at name es)) (is_eq-slice_cmp name e.0)

swapped : {A : Type 0} (a b : Bool) (x y rest : A) → (a ≡ true → b ≡ true → ⊥) → cond a x (cond b y rest) ≡ cond b y (cond a x rest)
swapped true true x y rest apart = absurd (apart refl refl)
swapped true false x y rest apart = refl
swapped false true x y rest apart = refl
swapped false false x y rest apart = refl

once : {A : Type 0} (b : Bool) (x y rest : A) → cond b x rest ≡ cond b x (cond b y rest)
once true x y rest = refl
once false x y rest = refl

not-both : (k e name : List ℕ) → order k e ≡ Greater → bytes_eq name e ≡ true → bytes_eq name k ≡ true → ⊥
not-both k e name greater one other =
    let equal : k ≡ e = sym (same_text name k other) ∙ same_text name e one in
    let found : is_eq (order k e) ≡ true = is_eq-slice_cmp k e ∙ ap (λ t. bytes_eq k t) (sym equal) ∙ text-self k in
    let none : is_eq (order k e) ≡ false = ap is_eq greater in
    cc (sym found ∙ none)

placed : {V : Type 0} (o : Ordering) (name k : List ℕ) (v : V) (e : List ℕ × V) (es : List (List ℕ × V)) → order k e.0 ≡ o → at name (insert_entry order es k v) ≡ cond (bytes_eq name k) (Some v) (at name es) → at name (match_ordering o ((k, v) ∷ e ∷ es) ((e.0, v) ∷ es) (e ∷ insert_entry order es k v)) ≡ cond (bytes_eq name k) (Some v) (at name (e ∷ es))
placed Less name k v e es is later = head name (k, v) (e ∷ es)
placed Equal name k v e es is later =
    let by : is_eq (order name e.0) ≡ bytes_eq name k = is_eq-slice_cmp name e.0 ∙ ap (bytes_eq name) (sym (exact_bytes k e.0 is)) in
    ap (λ b. cond b (Some v) (at name es)) by
    ∙ once (bytes_eq name k) (Some v) (Some e.1) (at name es)
    ∙ ap (λ b. cond (bytes_eq name k) (Some v) (cond b (Some e.1) (at name es))) (sym by)
placed Greater name k v e es is later =
    ap (λ rest. cond (is_eq (order name e.0)) (Some e.1) rest) later
    ∙ swapped (is_eq (order name e.0)) (bytes_eq name k) (Some e.1) (Some v) (at name es) (λ one other. not-both k e.0 name is (sym (is_eq-slice_cmp name e.0) ∙ one) other)

at-inserted : {V : Type 0} (name k : List ℕ) (v : V) (es : List (List ℕ × V)) → at name (insert_entry order es k v) ≡ cond (bytes_eq name k) (Some v) (at name es)
at-inserted name k v [] = head name (k, v) []
at-inserted name k v (e ∷ es) = placed (order k e.0) name k v e es refl (at-inserted name k v es)

eq-sym : (a b : List ℕ) → bytes_eq a b ≡ bytes_eq b a
eq-sym a b = by (bytes_eq a b) (bytes_eq b a) (λ is. ap (bytes_eq b) (same_text a b is) ∙ text-self b) (λ is. ap (bytes_eq a) (same_text b a is) ∙ text-self a)
  where
    by : (p q : Bool) → (p ≡ true → q ≡ true) → (q ≡ true → p ≡ true) → p ≡ q
    by true q one other = sym (one refl)
    by false true one other = other refl
    by false false one other = refl

-- The value of each text after an insertion.
pub at_inserted : {V : Type 0} (k : List ℕ) (v : V) (es : List (List ℕ × V)) (name : List ℕ) → at name (insert_entry order es k v) ≡ cond (bytes_eq k name) (Some v) (at name es)
at_inserted k v es name = at-inserted name k v es ∙ ap (λ b. cond b (Some v) (at name es)) (eq-sym name k)

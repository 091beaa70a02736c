-- The functions of a layout are those that chains of references reach.
use Rattle.std.proofs.Common.{◌≡◌, ℕ, zero, suc, Bool, true, false, cond, List, [], ◌∷◌, Option, Some, None, refl, sym, ap, ◌∙◌, subst, inl, inr, ◌⊎◌}
use Rattle.std.specs.Prelude.{slice_get}
use Rattle.linker.specs.Layout.{Key, same, Table, flat_option, has, first_open, back_from, back, path, or_else, name_of, IsOrder, IsLayout}
use Rattle.linker.proofs.SameKey.{same_true}
use Rattle.linker.specs.Reached.{Refers, Chain, AreDistinct, AreReached}
use Rattle.linker.proofs.Keys.{IsIn, IsOf, all_closed, closed_ref, name_new}

open_ref_at : (ks : List Key) (key : Key) (rs : List (Option Key)) (k : Key) (b : Bool) → cond b (first_open (has ks) rs) (Some key) ≡ Some k → (first_open (has ks) rs ≡ Some k → (i : ℕ) × (flat_option (slice_get rs i) ≡ Some k)) → (i : ℕ) × (flat_option (slice_get (Some key ∷ rs) i) ≡ Some k)
open_ref_at ks key rs k true e ih = let r = ih e in (suc r.0, r.1)
open_ref_at ks key rs k false e ih = (0, e)

-- The first open reference is a reference.
open_ref : (ks : List Key) (rs : List (Option Key)) (k : Key) → first_open (has ks) rs ≡ Some k → (i : ℕ) × (flat_option (slice_get rs i) ≡ Some k)
open_ref ks [] k e = absurd (cc)
open_ref ks (None ∷ rs) k e = let r = open_ref ks rs k e in (suc r.0, r.1)
open_ref ks (Some key ∷ rs) k e = open_ref_at ks key rs k (has ks key) e (open_ref ks rs k)

name_ref_at : (t : Table) (ks : List Key) (c : Key) (cs : List Key) (k : Key) (o : Option Key) → first_open (has ks) (t.refs c) ≡ o → or_else o (name_of t ks cs) ≡ Some k → (name_of t ks cs ≡ Some k → (x : Key) × (IsIn x cs × Refers t x k)) → (x : Key) × (IsIn x (c ∷ cs) × Refers t x k)
name_ref_at t ks c cs k None h e ih = let r = ih e in (r.0, (inr r.1.0, r.1.1))
name_ref_at t ks c cs k (Some y) h e ih = (c, (inl refl, open_ref ks (t.refs c) k (h ∙ e)))

name_ref : (t : Table) (ks cs : List Key) (k : Key) → name_of t ks cs ≡ Some k → (x : Key) × (IsIn x cs × Refers t x k)
name_ref t ks [] k e = absurd (cc)
name_ref t ks (c ∷ cs) k e = name_ref_at t ks c cs k (first_open (has ks) (t.refs c)) refl e (name_ref t ks cs k)

-- A path consists of copies.
back_of_at : (x c : Key) (cs rest : List Key) (o : Option Key) → IsIn x (back_from o c cs rest) → (IsIn x rest → IsIn x cs) → IsIn x (c ∷ cs)
back_of_at x c cs rest None h ih = inr (ih h)
back_of_at x c cs rest (Some k) h ih = h

back_of : (t : Table) (ks cs : List Key) (x : Key) → IsIn x (back t ks cs) → IsIn x cs
back_of t ks [] x h = h
back_of t ks (c ∷ cs) x h = back_of_at x c cs (back t ks cs) (first_open (has ks) (t.refs c)) h (back_of t ks cs x)

path_of : (t : Table) (own : Key) (ks : List Key) (x : Key) → IsIn x (path t own ks) → IsOf own ks x
path_of t own [] x (inl h) = h
path_of t own [] x (inr h) = absurd h
path_of t own (k ∷ ks) x (inl h) = inl h
path_of t own (k ∷ ks) x (inr h) = inr (path_of t own ks x (back_of t ks (path t own ks) x h))

-- A copy is of the own function, or of a function that a chain reaches.
abbrev IsReached : Table → Key → Key → Type 0
IsReached t own x = (x ≡ own) ⊎ ((n : ℕ) × Chain t own x n)

one_more : (t : Table) (own x k : Key) → IsReached t own x → Refers t x k → (n : ℕ) × Chain t own k n
one_more t own x k (inl e) r = (0, subst (λ y. Refers t y k) e r)
one_more t own x k (inr c) r = (suc c.0, (x, (c.1, r)))

reached : (t : Table) (own : Key) (ks : List Key) (x : Key) → IsOrder t own ks → IsOf own ks x → IsReached t own x
reached t own [] x o h = inl h
reached t own (k ∷ ks) x o (inl h) =
    let r = name_ref t ks (path t own ks) k o.1 in
    let at = reached t own ks r.0 o.0 (path_of t own ks r.0 r.1.0) in
    inr (subst (λ y. (n : ℕ) × Chain t own y n) (sym h) (one_more t own r.0 k at r.1.1))
reached t own (k ∷ ks) x o (inr h) = reached t own ks x o.0 h

has_reached_at : (t : Table) (own k : Key) (ks : List Key) (x : Key) (b : Bool) → same k x ≡ b → IsOrder t own (k ∷ ks) → cond b true (has ks x) ≡ true → (has ks x ≡ true → (n : ℕ) × Chain t own x n) → (n : ℕ) × Chain t own x n
has_reached_at t own k ks x true e o h ih =
    let r = name_ref t ks (path t own ks) k o.1 in
    let at = reached t own ks r.0 o.0 (path_of t own ks r.0 r.1.0) in
    let q = same_true k x e in
    subst (λ y. (n : ℕ) × Chain t own y n) q (one_more t own r.0 k at r.1.1)
has_reached_at t own k ks x false e o h ih = ih h

has_reached : (t : Table) (own : Key) (ks : List Key) (x : Key) → IsOrder t own ks → has ks x ≡ true → (n : ℕ) × Chain t own x n
has_reached t own [] x o h = absurd (cc)
has_reached t own (k ∷ ks) x o h = has_reached_at t own k ks x (same k x) refl o h (has_reached t own ks x o.0)

has_of_at : (own k : Key) (ks : List Key) (x : Key) (b : Bool) → same k x ≡ b → cond b true (has ks x) ≡ true → (has ks x ≡ true → IsOf own ks x) → IsOf own (k ∷ ks) x
has_of_at own k ks x true e h ih = let q = sym (same_true k x e) in inl q
has_of_at own k ks x false e h ih = inr (ih h)

has_of : (own : Key) (ks : List Key) (x : Key) → has ks x ≡ true → IsOf own ks x
has_of own [] x h = absurd (cc)
has_of own (k ∷ ks) x h = has_of_at own k ks x (same k x) refl h (has_of own ks x)

is_own : (own : Key) (ks : List Key) → IsOf own ks own
is_own own [] = refl
is_own own (k ∷ ks) = inr (is_own own ks)

some_ref : (o : Option (Option Key)) (key : Key) → flat_option o ≡ Some key → o ≡ Some (Some key)
some_ref None key e = cc
some_ref (Some r) key e = ap Some e

-- A function that a copy refers to is appended.
pub referred : (t : Table) (own : Key) (ks : List Key) (x k : Key) → IsLayout t own ks → IsOf own ks x → Refers t x k → has ks k ≡ true
referred t own ks x k l h r =
    closed_ref ks (t.refs x) r.0 k (all_closed t own ks x l h).none (some_ref (slice_get (t.refs x) r.0) k r.1)

chained : (t : Table) (own : Key) (ks : List Key) → IsLayout t own ks → (k : Key) (n : ℕ) → Chain t own k n → has ks k ≡ true
chained t own ks l k zero c = referred t own ks own k l (is_own own ks) c
chained t own ks l k (suc n) c =
    referred t own ks c.0 k l (has_of own ks c.0 (chained t own ks l c.0 n c.1.0)) c.1.1

pub distinct : (t : Table) (own : Key) (ks : List Key) → IsOrder t own ks → AreDistinct ks
distinct t own [] o = tt
distinct t own (k ∷ ks) o = (name_new t ks (path t own ks) k o.1, distinct t own ks o.0)

pub are_reached : (t : Table) (own : Key) (ks : List Key) → IsLayout t own ks → AreReached t own ks
are_reached t own ks l = record {
  reached = λ k h. has_reached t own ks k l.order h;
  all = chained t own ks l;
  once = distinct t own ks l.order;
}

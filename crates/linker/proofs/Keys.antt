-- The invariant of the walk over the references, and the properties of a complete layout.
use Rattle.std.proofs.Common.{◌≡◌, ℕ, zero, suc, Bool, true, false, cond, List, [], ◌∷◌, Option, Some, None, refl, sym, ap, ◌∙◌, subst, inl, inr, ⊎_elim, ◌⊎◌}
use Rattle.std.specs.Prelude.{slice_get}
use Rattle.linker.specs.Layout.{Key, same, Table, has, first_open, back_from, back, path, or_else, name_of, next_key, IsLayout}
use Rattle.linker.specs.Walking.{OnWay}

-- No reference of the function is open.
pub record IsClosed (t : Table) (ks : List Key) (c : Key) : Type 0 where
  pub none : first_open (has ks) (t.refs c) ≡ None

abbrev pub IsIn : Key → List Key → Type 0
IsIn c [] = ⊥
IsIn c (x ∷ xs) = (c ≡ x) ⊎ IsIn c xs

name_back_at : (t : Table) (ks : List Key) (c : Key) (cs : List Key) (o : Option Key) → first_open (has ks) (t.refs c) ≡ o → name_of t ks (back t ks cs) ≡ name_of t ks cs → name_of t ks (back_from o c cs (back t ks cs)) ≡ or_else o (name_of t ks cs)
name_back_at t ks c cs None e h = h
name_back_at t ks c cs (Some key) e h = ap (λ o. or_else o (name_of t ks cs)) e

pub name_back : (t : Table) (ks cs : List Key) → name_of t ks (back t ks cs) ≡ name_of t ks cs
name_back t ks [] = refl
name_back t ks (c ∷ cs) = name_back_at t ks c cs (first_open (has ks) (t.refs c)) refl (name_back t ks cs)

pub way_start : (t : Table) (own : Key) → OnWay t own [] (own ∷ [])
way_start t own = record { order = tt; way = refl }

pub way_pop : (t : Table) (own : Key) (ks fs : List Key) (c : Key) → OnWay t own ks (c ∷ fs) → first_open (has ks) (t.refs c) ≡ None → OnWay t own ks fs
way_pop t own ks fs c w e =
    record { order = w.order; way = w.way ∙ ap (λ o. back_from o c fs (back t ks fs)) e }

way_next : (t : Table) (own : Key) (ks fs : List Key) → OnWay t own ks fs → next_key t own ks ≡ name_of t ks fs
way_next t own ks fs w = sym (name_back t ks (path t own ks)) ∙ ap (name_of t ks) w.way ∙ name_back t ks fs

pub way_push : (t : Table) (own : Key) (ks fs : List Key) (c k : Key) → OnWay t own ks (c ∷ fs) → first_open (has ks) (t.refs c) ≡ Some k → OnWay t own (k ∷ ks) (k ∷ c ∷ fs)
way_push t own ks fs c k w e =
    let named = way_next t own ks (c ∷ fs) w ∙ ap (λ o. or_else o (name_of t ks fs)) e in
    let here = w.way ∙ ap (λ o. back_from o c fs (back t ks fs)) e in
    record { order = (w.order, named); way = ap (λ l. back t (k ∷ ks) (k ∷ l)) here }

pub way_end : (t : Table) (own : Key) (ks : List Key) → OnWay t own ks [] → IsLayout t own ks
way_end t own ks w = record { order = w.order; complete = way_next t own ks [] w }

-- With one more key, no reference becomes open.
pub has_more : (ks : List Key) (k key : Key) → has ks key ≡ true → has (k ∷ ks) key ≡ true
has_more ks k key h = elim (same k key) as (λ b. cond b true (has ks key) ≡ true) [ true ↦ refl | false ↦ h ]

first_at : (ks : List Key) (key : Key) (rs : List (Option Key)) (b : Bool) (o : Option Key) → has ks key ≡ b → cond b (first_open (has ks) rs) (Some key) ≡ None → (has ks key ≡ true) × (first_open (has ks) rs ≡ None)
first_at ks key rs true o h e = (h, e)
first_at ks key rs false o h e = cc

pub closed_more : (ks : List Key) (k : Key) (rs : List (Option Key)) → first_open (has ks) rs ≡ None → first_open (has (k ∷ ks)) rs ≡ None
closed_more ks k [] e = refl
closed_more ks k (None ∷ rs) e = closed_more ks k rs e
closed_more ks k (Some key ∷ rs) e =
    let p = first_at ks key rs (has ks key) None refl e in
    ap (λ b. cond b (first_open (has (k ∷ ks)) rs) (Some key)) (has_more ks k key p.0) ∙ closed_more ks k rs p.1

pub closed_ref : (ks : List Key) (rs : List (Option Key)) (i : ℕ) (key : Key) → first_open (has ks) rs ≡ None → slice_get rs i ≡ Some (Some key) → has ks key ≡ true
closed_ref ks [] i key e h = cc
closed_ref ks (None ∷ rs) zero key e h = cc
closed_ref ks (None ∷ rs) (suc i) key e h = closed_ref ks rs i key e h
closed_ref ks (Some k ∷ rs) zero key e h =
    let p = first_at ks k rs (has ks k) None refl e in
    let q : k ≡ key = cc in
    subst (λ x. has ks x ≡ true) q p.0
closed_ref ks (Some k ∷ rs) (suc i) key e h = closed_ref ks rs i key (first_at ks k rs (has ks k) None refl e).1 h

-- The next key isn't among the keys so far.
open_new_at : (ks : List Key) (key k : Key) (rs : List (Option Key)) (b : Bool) → has ks key ≡ b → cond b (first_open (has ks) rs) (Some key) ≡ Some k → (first_open (has ks) rs ≡ Some k → has ks k ≡ false) → has ks k ≡ false
open_new_at ks key k rs true h e ih = ih e
open_new_at ks key k rs false h e ih = let q : key ≡ k = cc in subst (λ x. has ks x ≡ false) q h

pub open_new : (ks : List Key) (rs : List (Option Key)) (k : Key) → first_open (has ks) rs ≡ Some k → has ks k ≡ false
open_new ks [] k e = cc
open_new ks (None ∷ rs) k e = open_new ks rs k e
open_new ks (Some key ∷ rs) k e = open_new_at ks key k rs (has ks key) refl e (open_new ks rs k)

name_new_at : (t : Table) (ks : List Key) (k c : Key) (rest : Option Key) (o : Option Key) → first_open (has ks) (t.refs c) ≡ o → or_else o rest ≡ Some k → (rest ≡ Some k → has ks k ≡ false) → has ks k ≡ false
name_new_at t ks k c rest None e h ih = ih h
name_new_at t ks k c rest (Some x) e h ih = open_new ks (t.refs c) k (e ∙ h)

pub name_new : (t : Table) (ks cs : List Key) (k : Key) → name_of t ks cs ≡ Some k → has ks k ≡ false
name_new t ks [] k e = cc
name_new t ks (c ∷ cs) k e = name_new_at t ks k c (name_of t ks cs) (first_open (has ks) (t.refs c)) refl e (name_new t ks cs k)

-- A copy has no open reference, or it is on the path.
back_in_at : (t : Table) (ks : List Key) (x c : Key) (cs rest : List Key) (o : Option Key) → first_open (has ks) (t.refs c) ≡ o → (x ≡ c) ⊎ IsIn x cs → (IsIn x cs → IsClosed t ks x ⊎ IsIn x rest) → IsClosed t ks x ⊎ IsIn x (back_from o c cs rest)
back_in_at t ks x c cs rest None e (inl q) ih = inl (record { none = ap (λ y. first_open (has ks) (t.refs y)) q ∙ e })
back_in_at t ks x c cs rest None e (inr q) ih = ih q
back_in_at t ks x c cs rest (Some k) e h ih = inr h

back_in : (t : Table) (ks cs : List Key) (x : Key) → IsIn x cs → IsClosed t ks x ⊎ IsIn x (back t ks cs)
back_in t ks [] x h = absurd h
back_in t ks (c ∷ cs) x h = back_in_at t ks x c cs (back t ks cs) (first_open (has ks) (t.refs c)) refl h (back_in t ks cs x)

abbrev pub IsOf : Key → List Key → Key → Type 0
IsOf own [] x = x ≡ own
IsOf own (k ∷ ks) x = (x ≡ k) ⊎ IsOf own ks x

later : (t : Table) (own k : Key) (ks : List Key) (x : Key) → IsClosed t ks x ⊎ IsIn x (path t own ks) → IsClosed t (k ∷ ks) x ⊎ IsIn x (path t own (k ∷ ks))
later t own k ks x (inl c) = inl (record { none = closed_more ks k (t.refs x) c.none })
later t own k ks x (inr i) =
    ⊎_elim (λ c. inl (record { none = closed_more ks k (t.refs x) c.none })) (λ j. inr (inr j)) (back_in t ks (path t own ks) x i)

on_path : (t : Table) (own : Key) (ks : List Key) (x : Key) → IsOf own ks x → IsClosed t ks x ⊎ IsIn x (path t own ks)
on_path t own [] x h = inr (inl h)
on_path t own (k ∷ ks) x (inl h) = inr (inl h)
on_path t own (k ∷ ks) x (inr h) = later t own k ks x (on_path t own ks x h)

none_left : (a b : Option Key) → or_else a b ≡ None → (a ≡ None) × (b ≡ None)
none_left None b e = (refl, e)
none_left (Some x) b e = cc

name_closed : (t : Table) (ks cs : List Key) (x : Key) → name_of t ks cs ≡ None → IsIn x cs → IsClosed t ks x
name_closed t ks [] x e h = absurd h
name_closed t ks (c ∷ cs) x e (inl h) =
    record { none = ap (λ y. first_open (has ks) (t.refs y)) h ∙ (none_left (first_open (has ks) (t.refs c)) (name_of t ks cs) e).0 }
name_closed t ks (c ∷ cs) x e (inr h) =
    name_closed t ks cs x (none_left (first_open (has ks) (t.refs c)) (name_of t ks cs) e).1 h

pub all_closed : (t : Table) (own : Key) (ks : List Key) (x : Key) → IsLayout t own ks → IsOf own ks x → IsClosed t ks x
all_closed t own ks x l h =
    elim (on_path t own ks x h) [ inl c ↦ c | inr i ↦ name_closed t ks (path t own ks) x l.complete i ]

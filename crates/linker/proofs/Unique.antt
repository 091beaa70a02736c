-- There is one layout, and each order of copies is a prefix of it.
use Rattle.std.proofs.Common.{◌≡◌, List, [], ◌∷◌, ◌++◌, Some, None, refl, sym, ap, ◌∙◌, subst, append_assoc, ◌⊎◌, inl, inr}
use Rattle.std.proofs.lemmas.List.{append-nil}
use Rattle.linker.specs.Layout.{Key, Table, next_key, IsOrder, IsLayout}

pub order_back : (t : Table) (own : Key) (c a : List Key) → IsOrder t own (c ++ a) → IsOrder t own a
order_back t own [] a o = o
order_back t own (x ∷ c) a o = order_back t own c a o.0

abbrev HasLast : List Key → Type 0
HasLast c = (c ≡ []) ⊎ ((b : List Key) × ((y : Key) × (c ≡ b ++ (y ∷ []))))

last_more : (x : Key) (c : List Key) → HasLast c → HasLast (x ∷ c)
last_more x c (inl e) = inr ([], (x, ap (λ l. x ∷ l) e))
last_more x c (inr h) = inr (x ∷ h.0, (h.1.0, ap (λ l. x ∷ l) h.1.1))

last_of : (c : List Key) → HasLast c
last_of [] = inl refl
last_of (x ∷ c) = last_more x c (last_of c)

longer : (t : Table) (own x : Key) (a b c : List Key) → IsLayout t own b → next_key t own a ≡ Some x → b ≡ c ++ a → HasLast c → (d : List Key) × (b ≡ d ++ (x ∷ a))
longer t own x a b c l n e (inl z) =
    let same : b ≡ a = e ∙ ap (λ w. w ++ a) z in
    let none : next_key t own a ≡ None = subst (λ w. next_key t own w ≡ None) same l.complete in
    let no : Some x ≡ None = sym n ∙ none in
    absurd (cc)
longer t own x a b c l n e (inr h) =
    let y = h.1.0 in
    let split : b ≡ h.0 ++ (y ∷ a) = e ∙ ap (λ w. w ++ a) h.1.1 ∙ append_assoc h.0 (y ∷ []) a in
    let o = order_back t own h.0 (y ∷ a) (subst (IsOrder t own) split l.order) in
    let same : Some y ≡ Some x = sym o.1 ∙ n in
    let q : y ≡ x = cc in
    (h.0, split ∙ ap (λ w. h.0 ++ (w ∷ a)) q)

pub front : (t : Table) (own : Key) (a b : List Key) → IsOrder t own a → IsLayout t own b → (c : List Key) × (b ≡ c ++ a)
front t own [] b o l = (b, sym (append-nil b))
front t own (x ∷ a) b o l =
    let h = front t own a b o.0 l in longer t own x a b h.0 l o.1 h.1 (last_of h.0)

only_at : (t : Table) (own : Key) (a b c : List Key) → IsLayout t own a → IsLayout t own b → b ≡ c ++ a → HasLast c → a ≡ b
only_at t own a b c l m e (inl z) = sym (e ∙ ap (λ w. w ++ a) z)
only_at t own a b c l m e (inr h) =
    let y = h.1.0 in
    let split : b ≡ h.0 ++ (y ∷ a) = e ∙ ap (λ w. w ++ a) h.1.1 ∙ append_assoc h.0 (y ∷ []) a in
    let o = order_back t own h.0 (y ∷ a) (subst (IsOrder t own) split m.order) in
    let no : Some y ≡ None = sym o.1 ∙ l.complete in
    absurd (cc)

pub only : (t : Table) (own : Key) (a b : List Key) → IsLayout t own a → IsLayout t own b → a ≡ b
only t own a b l m = let h = front t own a b l.order m in only_at t own a b h.0 l m h.1 (last_of h.0)

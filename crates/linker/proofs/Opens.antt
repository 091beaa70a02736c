-- The search for the next open reference, by a test of which keys are known.
use Rattle.std.proofs.Common.{◌≡◌, ℕ, zero, suc, ◌+◌, ◌<◌, Bool, true, false, cond, List, [], ◌∷◌, ◌++◌, length, take, get_or, Option, Some, None, refl, sym, ap, ◌∙◌, subst, arith}
use Rattle.std.specs.Prelude.{slice_get}
use Rattle.std.proofs.lemmas.List.{take_more}
use Rattle.linker.specs.Layout.{Key, first_open}
use Rattle.ebpf_items.specs.declared.instruction.bpf_insn.{bpf_insn}
use Rattle.object_parts.specs.Content.{FunctionContent}
use Rattle.linker.specs.Unlinked.{Unlinked, ref_of, refs_from, refs_of}
use Rattle.linker.specs.Walks.{IsOpen, open_in}
use Rattle.std.proofs.lemmas.Option.{slice_get-get_or}

open_after_at : (p : Key → Bool) (key : Key) (a b : List (Option Key)) (v : Bool) → cond v (first_open p a) (Some key) ≡ None → (first_open p a ≡ None → first_open p (a ++ b) ≡ first_open p b) → cond v (first_open p (a ++ b)) (Some key) ≡ first_open p b
open_after_at p key a b true e ih = ih e
open_after_at p key a b false e ih = cc

pub open_after : (p : Key → Bool) (a b : List (Option Key)) → first_open p a ≡ None → first_open p (a ++ b) ≡ first_open p b
open_after p [] b e = refl
open_after p (None ∷ a) b e = open_after p a b e
open_after p (Some key ∷ a) b e = open_after_at p key a b (p key) e (open_after p a b)

one : (p : Key → Bool) (r : Option Key) → ((key : Key) → r ≡ Some key → p key ≡ true) → first_open p (r ∷ []) ≡ None
one p None h = refl
one p (Some key) h = ap (λ v. cond v None (Some key)) (h key refl)

pub open_more : (p : Key → Bool) (targets : List (Option Key)) (i : ℕ) → i < length targets → first_open p (take i targets) ≡ None → ((key : Key) → get_or targets i None ≡ Some key → p key ≡ true) → first_open p (take (i + 1) targets) ≡ None
open_more p targets i lt e h =
    ap (first_open p) (take_more targets i None lt) ∙ open_after p (take i targets) (get_or targets i None ∷ []) e ∙ one p (get_or targets i None) h

abbrev known_at : (Key → Bool) → Option Key → Type 0
known_at p None = Unit {0}
known_at p (Some k) = p k ≡ true

pub here_known : (p : Key → Bool) (r : Option Key) (k : Key) → r ≡ Some k → p k ≡ true → (key : Key) → r ≡ Some key → p key ≡ true
here_known p r k e h key q = let same : Some k ≡ Some key = sym e ∙ q in subst (λ o. known_at p o) same h

pub none_here : (p : Key → Bool) (r : Option Key) → ((k : Key) → r ≡ Some k → ⊥) → (key : Key) → r ≡ Some key → p key ≡ true
none_here p r h key q = absurd (h key q)

-- Two tests with equal results find the same reference.
pub first_same : (p q : Key → Bool) (rs : List (Option Key)) → ((k : Key) → p k ≡ q k) → first_open p rs ≡ first_open q rs
first_same p q [] h = refl
first_same p q (None ∷ rs) h = first_same p q rs h
first_same p q (Some key ∷ rs) h = ap (λ v. cond v (first_open p rs) (Some key)) (h key) ∙ ap (λ o. cond (q key) o (Some key)) (first_same p q rs h)

before_at : (p : Key → Bool) (key : Key) (v : Bool) (a rest : Option Key) → cond v a (Some key) ≡ None → (a ≡ None) × (cond v rest (Some key) ≡ rest)
before_at p key true a rest e = (e, refl)
before_at p key false a rest e = cc

pub opened : (p : Key → Bool) (targets : List (Option Key)) (i : ℕ) (key : Key) → slice_get targets i ≡ Some (Some key) → p key ≡ false → first_open p (take i targets) ≡ None → first_open p targets ≡ Some key
opened p [] i key h u b = cc
opened p (None ∷ rs) zero key h u b = cc
opened p (Some k ∷ rs) zero key h u b =
    let q : k ≡ key = cc in ap (λ x. cond (p x) (first_open p rs) (Some x)) q ∙ ap (λ v. cond v (first_open p rs) (Some key)) u
opened p (None ∷ rs) (suc i) key h u b = opened p rs i key h u b
opened p (Some k ∷ rs) (suc i) key h u b =
    let e = before_at p k (p k) (first_open p (take i rs)) (first_open p rs) b in
    e.1 ∙ opened p rs i key h u e.0

-- One more reference.
pub up_to : (rs : List (Option Key)) (i : ℕ) (key : Key) → slice_get rs i ≡ Some (Some key) → take (suc i) rs ≡ take i rs ++ (Some key ∷ [])
up_to [] i key h = cc
up_to (r ∷ rs) zero key h = let q : r ≡ Some key = cc in ap (λ x. x ∷ []) q
up_to (r ∷ rs) (suc i) key h = ap (λ l. r ∷ l) (up_to rs i key h)

-- The references of a function, slot by slot.
pub refs_get : (u : Unlinked) (f : FunctionContent) (i : ℕ) (ss : List bpf_insn) (n : ℕ) (s : bpf_insn) → slice_get ss n ≡ Some s → slice_get (refs_from u f i ss) n ≡ Some (ref_of u f (i + n) s)
refs_get u f i [] n s h = absurd (cc)
refs_get u f i (x ∷ ss) zero s h =
    let e : x ≡ s = cc in
    let z : i ≡ i + 0 = omega arith in
    ap (λ y. Some (ref_of u f i y)) e ∙ ap (λ m. Some (ref_of u f m s)) z
refs_get u f i (x ∷ ss) (suc n) s h =
    let z : i + 1 + n ≡ i + suc n = omega arith in
    refs_get u f (i + 1) ss n s h ∙ ap (λ m. Some (ref_of u f m s)) z

pub refs_length : (u : Unlinked) (f : FunctionContent) (i : ℕ) (ss : List bpf_insn) → length (refs_from u f i ss) ≡ length ss
refs_length u f i [] = refl
refs_length u f i (s ∷ ss) = ap suc (refs_length u f (i + 1) ss)

get_or_some : {A : Type 0} (xs : List A) (n : ℕ) (x d : A) → slice_get xs n ≡ Some x → get_or xs n d ≡ x
get_or_some [] n x d h = absurd (cc)
get_or_some (y ∷ ys) zero x d h = cc
get_or_some (y ∷ ys) (suc n) x d h = get_or_some ys n x d h

-- Whether the reference of a slot is open.
pub open_ref : (u : Unlinked) (f : FunctionContent) (p : Key → Bool) (i : ℕ) (s : bpf_insn) (r : Option Key) → Some s ≡ slice_get f.instructions i → r ≡ ref_of u f i s → open_in p (get_or (refs_of u f) i None) ≡ open_in p r
open_ref u f p i s r h e =
    let z : 0 + i ≡ i = omega arith in
    let g = refs_get u f 0 f.instructions i s (sym h) ∙ ap (λ n. Some (ref_of u f n s)) z in
    ap (open_in p) (get_or_some (refs_of u f) i (ref_of u f i s) None g ∙ sym e)

open_parts_at : (p : Key → Bool) (k key : Key) (v : Bool) → p k ≡ v → Some key ≡ cond v None (Some k) → (Some k ≡ Some key) × (p key ≡ false)
open_parts_at p k key true e h = absurd (cc)
open_parts_at p k key false e h =
    let q : key ≡ k = cc in
    (ap Some (sym q), ap p q ∙ e)

open_parts : (p : Key → Bool) (r : Option Key) (key : Key) → Some key ≡ open_in p r → (r ≡ Some key) × (p key ≡ false)
open_parts p None key h = absurd (cc)
open_parts p (Some k) key h = open_parts_at p k key (p k) refl h

pub is_open : (p : Key → Bool) (refs : List (Option Key)) (slot : ℕ) (key : Key) → slot < length refs → Some key ≡ open_in p (get_or refs slot None) → first_open p (take slot refs) ≡ None → IsOpen p refs (record { key = key; slot = slot })
is_open p refs slot key lt h b =
    let o = open_parts p (get_or refs slot None) key h in
    record { at_slot = slice_get-get_or refs slot None lt ∙ ap Some o.0; unset = o.1; before = b }

closed_at : (p : Key → Bool) (k : Key) (v : Bool) → p k ≡ v → None ≡ cond v None (Some k) → p k ≡ true
closed_at p k true e h = e
closed_at p k false e h = absurd (cc)

closed_here : (p : Key → Bool) (r : Option Key) → None ≡ open_in p r → (key : Key) → r ≡ Some key → p key ≡ true
closed_here p None h key q = absurd (cc)
closed_here p (Some k) h key q = let e : k ≡ key = cc in ap p (sym e) ∙ closed_at p k (p k) refl h

pub still_closed : (p : Key → Bool) (refs : List (Option Key)) (slot : ℕ) → slot < length refs → None ≡ open_in p (get_or refs slot None) → first_open p (take slot refs) ≡ None → first_open p (take (slot + 1) refs) ≡ None
still_closed p refs slot lt h b = open_more p refs slot lt b (closed_here p (get_or refs slot None) h)

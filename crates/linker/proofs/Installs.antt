-- Linked functions replace the functions of their keys.
use Rattle.std.proofs.Common.{◌≡◌, ℕ, Bool, true, false, cond, List, [], ◌∷◌, ◌++◌, Option, Some, refl, sym, ap, ◌∙◌, subst, is_some, inl, inr, append_assoc}
use Rattle.std.specs.Prelude.{◌||◌}
use Rattle.std.specs.BTreeMap.{is_at}
use Rattle.std.specs.Map.{keys_of}
use Rattle.std.specs.List.{list_any}
use Rattle.object_parts.specs.Content.{FunctionContent, HaveFunctions, ProgramContent, Replaces, function_at, has_function, key_cmp, key_of}
use Rattle.relocation_errors.specs.declared.error.RelocationError.{RelocationError}
use Rattle.linker.specs.Layout.{Key, has, same}
use Rattle.linker.specs.Unlinked.{Unlinked}
use Rattle.linker.specs.Faults.{CanBeLinked, HasLinkFault}
use Rattle.linker.specs.Linked.{AllCanBeLinked, AreLinked, HasFaultOf, IsLinked, program_keys}
use Rattle.object_parts.specs.Installed.{AreThere, Installed, installed_at}
use Rattle.linker.specs.Installed.{AreLinkedTo}
use Rattle.linker.proofs.Walk.{same_true}

-- The keys of linked functions are keys of functions.
pub are_there : (u : Unlinked) (ks : List Key) (gs : List FunctionContent) → AreLinkedTo u ks gs → AreThere u.functions gs
are_there u [] [] h = tt
are_there u [] (g ∷ gs) h = absurd h
are_there u (k ∷ ks) [] h = absurd h
are_there u (k ∷ ks) (g ∷ gs) h =
    (ap (has_function u.functions) h.0.keyed ∙ ap is_some h.0.before, are_there u ks gs h.1)

-- The function of a key is linked, after the linked functions replaced those of their keys.
abbrev IsLinkedFor : Unlinked → Key → Option FunctionContent → Type 0
IsLinkedFor u key o = (g : FunctionContent) × ((o ≡ Some g) × IsLinked u key g)

linked_first : (u : Unlinked) (k key : Key) (g : FunctionContent) (rest : Option FunctionContent) (b : Bool) → same k key ≡ b → IsLinked u k g → (b ≡ false → IsLinkedFor u key rest) → IsLinkedFor u key (cond b (Some g) rest)
linked_first u k key g rest true e h more = (g, (refl, subst (λ x. IsLinked u x g) (same_true k key e) h))
linked_first u k key g rest false e h more = more refl

has_rest : (b other : Bool) → cond b true other ≡ true → b ≡ false → other ≡ true
has_rest true other h e = absurd (cc)
has_rest false other h e = h

linked_for : (u : Unlinked) (ks : List Key) (gs : List FunctionContent) (key : Key) (o : Option FunctionContent) → AreLinkedTo u ks gs → has ks key ≡ true → IsLinkedFor u key (installed_at gs key o)
linked_for u [] [] key o h t = absurd (cc)
linked_for u [] (g ∷ gs) key o h t = absurd h
linked_for u (k ∷ ks) [] key o h t = absurd h
linked_for u (k ∷ ks) (g ∷ gs) key o h t =
    subst (λ x. IsLinkedFor u key (cond (same x key) (Some g) (installed_at gs key o))) (sym h.0.keyed)
    (linked_first u k key g (installed_at gs key o) (same k key) refl h.0 (λ e. linked_for u ks gs key o h.1 (has_rest (same k key) (has ks key) t e)))

not_here : (b other : Bool) (A : FunctionContent) (rest : Option FunctionContent) → cond b true other ≡ false → (b ≡ false) × (other ≡ false)
not_here true other A rest h = absurd (cc)
not_here false other A rest h = (refl, h)

untouched : (u : Unlinked) (ks : List Key) (gs : List FunctionContent) (key : Key) (o : Option FunctionContent) → AreLinkedTo u ks gs → has ks key ≡ false → installed_at gs key o ≡ o
untouched u [] [] key o h t = refl
untouched u [] (g ∷ gs) key o h t = absurd h
untouched u (k ∷ ks) [] key o h t = absurd h
untouched u (k ∷ ks) (g ∷ gs) key o h t =
    let n = not_here (same k key) (has ks key) g o t in
    ap (λ b. cond b (Some g) (installed_at gs key o)) (ap (λ x. same x key) h.0.keyed ∙ n.0) ∙ untouched u ks gs key o h.1 n.1

pub are_linked : (u : Unlinked) (ks : List Key) (gs : List FunctionContent) (new : List (Key × FunctionContent)) → AreLinkedTo u ks gs → Installed u.functions new gs → AreLinked u ks new
are_linked u ks gs new h i = record {
  stay = i.keys;
  programs = λ key t. subst (IsLinkedFor u key) (sym (i.at key)) (linked_for u ks gs key (function_at u.functions key) h t);
  others = λ key t. i.at key ∙ untouched u ks gs key (function_at u.functions key) h t;
}

-- The programs, one after the other.
abbrev pub Program : Type 0
Program = List ℕ × ProgramContent

abbrev pub program_key : Program → Key
program_key p = (p.1.section_index, p.1.address)

pub have_at : (done : List Program) (p : Program) (rest : List Program) (fs : List (Key × FunctionContent)) → HaveFunctions (done ++ (p ∷ rest)) fs → has_function fs (program_key p) ≡ true
unfolding HaveFunctions
have_at [] p rest fs h = h.0
have_at (x ∷ done) p rest fs h = have_at done p rest fs h.1

pub linked_more : (u : Unlinked) (done : List Program) (gs : List FunctionContent) (p : Program) (g : FunctionContent) → AreLinkedTo u (program_keys done) gs → IsLinked u (program_key p) g → AreLinkedTo u (program_keys (done ++ (p ∷ []))) (gs ++ (g ∷ []))
linked_more u [] [] p g h i = (i, tt)
linked_more u [] (x ∷ gs) p g h i = absurd h
linked_more u (d ∷ done) [] p g h i = absurd h
linked_more u (d ∷ done) (x ∷ gs) p g h i = (h.0, linked_more u done gs p g h.1 i)

pub can_more : (u : Unlinked) (done : List Program) (p : Program) → AllCanBeLinked u (program_keys done) → CanBeLinked u (program_key p) → AllCanBeLinked u (program_keys (done ++ (p ∷ [])))
can_more u [] p h i = (i, tt)
can_more u (d ∷ done) p h i = (h.0, can_more u done p h.1 i)

pub fault_at : (u : Unlinked) (done : List Program) (p : Program) (rest : List Program) (name : Option (List ℕ)) (e : RelocationError) → name ≡ Some p.0 → HasLinkFault u (program_key p) e → HasFaultOf u (done ++ (p ∷ rest)) name e
fault_at u [] p rest name e n h = inl (n, h)
fault_at u (d ∷ done) p rest name e n h = inr (fault_at u done p rest name e n h)

pub fault_of : (u : Unlinked) (done : List Program) (p : Program) (rest all : List Program) (name : Option (List ℕ)) (e : RelocationError) → done ++ (p ∷ rest) ≡ all → name ≡ Some p.0 → HasLinkFault u (program_key p) e → HasFaultOf u all name e
fault_of u done p rest all name e split n h = subst (λ l. HasFaultOf u l name e) split (fault_at u done p rest name e n h)

-- Faults of items, one item after another.
use Rattle.std.proofs.Common.{◌≡◌, ◌≢◌, ℕ, zero, suc, ◌<◌, ◌⊎◌, List, [], ◌∷◌, ◌++◌, length, get_or, Any, refl, ap, sym, ◌∙◌, subst, arith, append_assoc, append-nil, inl, inr, Result, Ok, Err}
use Rattle.std.specs.Prelude.{IfErr}
use Rattle.std.specs.Result.{IsErrAnd}
use Rattle.std.specs.List.{AllByRecursion}
use Rattle.extern_resolution.specs.Steps.{NoFault, NoneBefore}
use Rattle.extern_resolution.specs.declared.error.KsymsError.{KsymsError}
use Rattle.extern_resolution.specs.declared.error.KsymsError.TheVariants.{OutOfMemory}
use Rattle.object_externs.specs.Externs.{ExternContent}

-- Some item has a property, by recursion.
abbrev pub Some-of : {X : Type 0} → (X → Type 0) → List X → Type 0
Some-of P [] = ⊥
Some-of P (x ∷ xs) = P x ⊎ Some-of P xs

at_index : {X : Type 0} (P : X → Type 0) (xs : List X) (k : ℕ) (x : X) → k < length xs → get_or xs k x ≡ x → P x → Some-of P xs
at_index P [] k x within is p = absurd (omega arith)
at_index P (y ∷ xs) zero x within is p = inl (subst P (sym is) p)
at_index P (y ∷ xs) (suc k) x within is p = inr (at_index P xs k x (omega arith) is p)

pub of_any : {X : Type 0} (P : X → Type 0) (xs : List X) → Any P xs → Some-of P xs
of_any P xs any = at_index P xs any.0 any.1 any.2 any.3 any.4

pub to_any : {X : Type 0} (P : X → Type 0) (xs : List X) → Some-of P xs → Any P xs
to_any P [] h = absurd h
to_any P (x ∷ xs) h = elim h [
  | inl p ↦ (0, x, omega arith, refl, p)
  | inr r ↦ let later = to_any P xs r in (suc later.0, later.1, omega (arith, later.2), later.3, later.4)
]

some_after : {X : Type 0} (P : X → Type 0) (front more : List X) (x : X) → P x → Some-of P (front ++ x ∷ more)
some_after P [] more x p = inl p
some_after P (y ∷ front) more x p = inr (some_after P front more x p)

none_of : {X : Type 0} (fault : KsymsError → X → Type 0) (xs : List X) (f : KsymsError) → AllByRecursion (λ x. NoFault (λ f. fault f x)) xs → Some-of (fault f) xs → ⊥
none_of fault [] f none h = h
none_of fault (x ∷ xs) f none h = elim h [ inl p ↦ none.0.none f p | inr r ↦ none_of fault xs f none.1 r ]

each_more : {X : Type 0} (Q : X → Type 0) (front : List X) (x : X) → AllByRecursion Q front → Q x → AllByRecursion Q (front ++ x ∷ [])
each_more Q [] x all q = (q, tt)
each_more Q (y ∷ front) x all q = (all.0, each_more Q front x all.1 q)

module _ (fault : KsymsError → (List ℕ × ExternContent) → Type 0) where
  pub none_yet : (all : List (List ℕ × ExternContent)) → NoneBefore fault all all
  none_yet all = record { front = []; split = refl; none = tt }

  pub none_more : (all rest more : List (List ℕ × ExternContent)) (x : List ℕ × ExternContent) → rest ≡ x ∷ more → NoneBefore fault all rest → NoFault (λ f. fault f x) → NoneBefore fault all more
  none_more all rest more x next before none = record {
    front = before.front ++ x ∷ [];
    split = before.split ∙ ap (λ (l : List (List ℕ × ExternContent)). before.front ++ l) next ∙ sym (append_assoc before.front (x ∷ []) more);
    none = each_more (λ x. NoFault (λ f. fault f x)) before.front x before.none none;
  }

  pub none_at_all : (all rest : List (List ℕ × ExternContent)) → rest ≡ [] → NoneBefore fault all rest → NoFault (λ f. Any (fault f) all)
  none_at_all all rest none before =
      let same : all ≡ before.front = before.split ∙ ap (λ (l : List (List ℕ × ExternContent)). before.front ++ l) none ∙ append-nil before.front in
      record { none = λ f any. none_of fault before.front f before.none (of_any (fault f) before.front (subst (Any (fault f)) same any)) }

  stands_here : (all rest more : List (List ℕ × ExternContent)) (x : List ℕ × ExternContent) (f : KsymsError) → rest ≡ x ∷ more → NoneBefore fault all rest → fault f x → Any (fault f) all
  stands_here all rest more x f next before h =
      subst (Any (fault f)) (sym (before.split ∙ ap (λ (l : List (List ℕ × ExternContent)). before.front ++ l) next)) (to_any (fault f) (before.front ++ x ∷ more) (some_after (fault f) before.front more x h))

  -- An error that is passed on.
  pub passed_here : {T : Type 0} (r : Result T KsymsError) (all rest more : List (List ℕ × ExternContent)) (x : List ℕ × ExternContent) (f : KsymsError) → rest ≡ x ∷ more → NoneBefore fault all rest → IsErrAnd r (λ g. g ≡ f) → (f ≢ OutOfMemory → fault f x) → IfErr r (λ g. g ≢ OutOfMemory → Any (fault g) all)
  passed_here (Ok y) all rest more x f next before passed h = tt
  passed_here (Err g) all rest more x f next before passed h = λ other. subst (λ (g : KsymsError). Any (fault g) all) (sym passed) (stands_here all rest more x f next before (h (λ is. other (passed ∙ is))))

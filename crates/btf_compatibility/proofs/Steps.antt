-- The number of steps that a comparison has left: two and the number of parts for each pair that
-- wasn't entered, and one and the number of remaining parts for each open pair.
use Rattle.std.proofs.Common.{◌≡◌, ℕ, suc, ◌+◌, ◌-◌, ◌<◌, ◌≤◌, Bool, true, false, cond, List, [], ◌∷◌, ◌++◌, length, Some, None, Option, is_some, refl, sym, ap, ◌∙◌, arith, slice_get}
use Rattle.std.proofs.lemmas.List.Sums.{sum_by_push}
use Rattle.std.proofs.lemmas.Option.{slice_get_within}
use Rattle.std.specs.List.{sum_by}
use Rattle.btf_compatibility.specs.TypeCompatibility.{is_pair, pair_parts}
use Rattle.btf_compatibility.specs.Pairs.{SetsState, state_of}
use Rattle.btf_compatibility.specs.declared.pairs.OpenPair.{OpenPair}
use Rattle.btf_compatibility.specs.declared.pairs.PairState.{PairState}
use Rattle.btf_compatibility.specs.declared.pairs.PairState.TheVariants.{Open, Settled}
use Rattle.btf_compatibility.proofs.Fuel.{pair-self}
use Rattle.btf_compatibility.proofs.Totals.{failing, failing-le, failing-lt}
use Rattle.btf_compatibility.proofs.Walks.{States, first_of, next_of}
use Rattle.btf_tables.specs.Tables.{Table}

abbrev is_entered : States → ℕ → ℕ → Bool
is_entered states l r = is_some (state_of states l r)

pub entered_stays : (b : Bool) (new : PairState) (state : Option PairState) → is_some state ≡ true
    → is_some (cond b (Some new) state) ≡ true
entered_stays true new state h = refl
entered_stays false new state h = h

module _ (local target : Table) where
  abbrev weight : ℕ → ℕ → ℕ
  weight l r = 2 + length (pair_parts local target l r)

  abbrev steps_in : OpenPair → ℕ
  steps_in p = 1 + (length (pair_parts local target p.left p.right) - p.next)

  unfoldable pub steps_left : States → List OpenPair → ℕ
  steps_left states items =
      failing local target (is_entered states) weight + sum_by steps_in items

  module _ (before after : States) (l r : ℕ) (new : PairState)
      (sets : SetsState before after l r new) where
    stays : (i k : ℕ) → is_entered before i k ≡ true → is_entered after i k ≡ true
    stays i k was =
        ap (is_some {T = PairState}) (sets.each i k)
        ∙ entered_stays (is_pair l r (i, k)) new (state_of before i k) was

    fewer : failing local target (is_entered after) weight
        ≤ failing local target (is_entered before) weight
    fewer = failing-le local target (is_entered before) (is_entered after) weight stays

    fewer-first : l < suc (length local.types) → r < suc (length target.types)
        → state_of before l r ≡ None
        → failing local target (is_entered after) weight + weight l r
        ≤ failing local target (is_entered before) weight
    fewer-first l_below r_below none =
        failing-lt local target (is_entered before) (is_entered after) weight stays l r l_below
        r_below (ap (is_some {T = PairState}) none)
        (ap (is_some {T = PairState}) (sets.each l r
        ∙ ap (λ (b : Bool). cond b (Some new) (state_of before l r)) (pair-self l r)))

  module _ (before after : States) (items rest : List OpenPair) (others : List OpenPair) (p : OpenPair)
      (last : items ≡ rest ++ p ∷ []) where
    was : sum_by steps_in items ≡ sum_by steps_in rest + steps_in p
    was = ap (sum_by steps_in) last ∙ sum_by_push steps_in rest p

    pub steps-settled : others ≡ rest → SetsState before after p.left p.right Settled
        → steps_left after others < steps_left before items
    unfolding steps_left
    steps-settled now sets =
        omega (arith, was, ap (sum_by steps_in) now, fewer before after p.left p.right Settled sets)

    pub steps-advanced : (q : ℕ × ℕ)
        → Some q ≡ slice_get (pair_parts local target p.left p.right) p.next
        → others ≡ rest ++ next_of p ∷ [] → after ≡ before
        → steps_left after others < steps_left before items
    unfolding steps_left
    steps-advanced q is now stays =
        let within = slice_get_within (pair_parts local target p.left p.right) p.next q (sym is) in
        omega (
          arith,
          was,
          within,
          ap (sum_by steps_in) now ∙ sum_by_push steps_in rest (next_of p),
          ap (λ (states : States). failing local target (is_entered states) weight) stays,
        )

    pub steps-opened : (again : List OpenPair) (l r : ℕ) → again ≡ rest ++ p ∷ []
        → others ≡ again ++ first_of l r ∷ [] → SetsState before after l r Open
        → l < suc (length local.types) → r < suc (length target.types)
        → None ≡ state_of before l r → steps_left after others < steps_left before items
    unfolding steps_left
    steps-opened again l r first second sets l_below r_below none =
        omega (
          arith,
          ap (sum_by steps_in) (first ∙ sym last),
          ap (sum_by steps_in) second ∙ sum_by_push steps_in again (first_of l r),
          fewer-first before after l r Open sets l_below r_below (sym none),
        )

-- The state of a comparison: the open pairs, each with its remaining parts, and the states of the
-- pairs that were entered.
use Rattle.std.proofs.Common.{◌≡◌, ◌≢◌, ℕ, zero, suc, ◌+◌, ◌||◌, Bool, true, false, cond, List, [], ◌∷◌, ◌++◌, drop, reverse, Ok, Err, Result, Option, Some, None, All, slice_get, refl, sym, ap, subst, ◌∙◌, inl, inr, arith}
use Rattle.std.specs.Prelude.{⊤}
use Rattle.std.proofs.lemmas.Bool.{cases_Bool, false_from_ne_true, or_cases, or_right}
use Rattle.std.proofs.lemmas.Bool.Decides.{nat_tests}
use Rattle.std.proofs.lemmas.Grind.{common_steps}
use Rattle.std.proofs.lemmas.List.{reverse-append}
use Rattle.std.proofs.lemmas.List.Elements.{All-cons, All-head, All-nil, All-tail, All-weaker}
use Rattle.btf_compatibility.specs.TypeCompatibility.{after_modifiers, all_yes, and_also, ends_compatible, is_open, is_pair, pair_parts, pair_verdict}
use Rattle.btf_compatibility.specs.Pairs.{SetsState, state_of}
use Rattle.btf_compatibility.specs.declared.pairs.OpenPair.{OpenPair}
use Rattle.btf_compatibility.specs.declared.pairs.PairState.{PairState}
use Rattle.btf_compatibility.specs.declared.pairs.PairState.TheVariants.{Open, Settled}
use Rattle.btf_compatibility.proofs.Fuel.{by_parts, by_verdict, deep, is_open-push, pair-self, value, value-closed, value-open}
use Rattle.btf_tables.specs.ResolvedTypes.{chain_end, max_depth}
use Rattle.btf_tables.specs.Tables.{Table}
use Rattle.btf_records.specs.declared.error.BtfError.{BtfError}

abbrev pub Ids : Type 0
Ids = List (ℕ × ℕ)

abbrev pub States : Type 0
States = List ((ℕ × ℕ) × PairState)

-- ---- Lists by an index

drop-at : (xs : Ids) (n : ℕ) (x : ℕ × ℕ) → Some x ≡ slice_get xs n
    → drop n xs ≡ x ∷ drop (suc n) xs
drop-at [] n x e = absurd cc
drop-at (y ∷ xs) zero x e = cc
drop-at (y ∷ xs) (suc n) x e = drop-at xs n x e

drop-past : (xs : Ids) (n : ℕ) → None ≡ slice_get xs n → drop n xs ≡ []
drop-past [] zero e = refl
drop-past [] (suc n) e = refl
drop-past (y ∷ xs) zero e = absurd cc
drop-past (y ∷ xs) (suc n) e = drop-past xs n e

one_more : (n : ℕ) → n + 1 ≡ suc n
one_more n = omega arith

-- ---- Results

-- A result that ends a comparison.
pub record IsFinal (answer : Result Bool BtfError) : Type 0 where
  pub ends : (next : Result Bool BtfError) → and_also answer next ≡ answer

pub final_no : IsFinal (Ok false)
final_no = record { ends = λ next. refl }

pub final_err : (e : BtfError) → IsFinal (Err e)
final_err e = record { ends = λ next. refl }

and-twice : (a b : Result Bool BtfError) → and_also a (and_also a b) ≡ and_also a b
and-twice (Ok true) b = refl
and-twice (Ok false) b = refl
and-twice (Err e) b = refl

-- ---- States of pairs

same_pair : (l r i k : ℕ) → is_pair i k (l, r) ≡ is_pair l r (i, k)
same_pair l r i k = grind (arith, common_steps, nat_tests)

by_pair : (P : ℕ → ℕ → Type 0) (l r i k : ℕ) → is_pair l r (i, k) ≡ true → P l r → P i k
by_pair P l r i k is p =
    let left : l ≡ i = grind (arith, common_steps) in
    let right : r ≡ k = grind (arith, common_steps) in
    subst (λ (x : ℕ). P x k) left (subst (P l) right p)

-- Whether a state is that of an open pair.
abbrev shows : Option PairState → Bool
shows (Some Open) = true
shows _ = false

or-false : (t : Bool) → (t || false) ≡ t
or-false true = refl
or-false false = refl

shows-opened : (t b : Bool) (s : Option PairState) → t ≡ shows s
    → (t || b) ≡ shows (cond b (Some Open) s)
shows-opened t true s e = or_right t true refl
shows-opened t false s e = or-false t ∙ e

shows-settled : (t b : Bool) (s : Option PairState) → (b ≡ true → t ≡ false)
    → (t || b) ≡ shows s → t ≡ shows (cond b (Some Settled) s)
shows-settled t true s fresh e = fresh refl
shows-settled t false s fresh e = sym (or-false t) ∙ e

stays-settled : (b : Bool) (new : PairState) (s : Option PairState) → (b ≡ true → new ≡ Settled)
    → s ≡ Some Settled → cond b (Some new) s ≡ Some Settled
stays-settled true new s h is = ap (λ (x : PairState). Some x) (h refl)
stays-settled false new s h is = is

was-settled : (b : Bool) (s : Option PairState) → cond b (Some Open) s ≡ Some Settled
    → s ≡ Some Settled
was-settled true s is = absurd cc
was-settled false s is = is

-- None of these open pairs is settled.
pub record Avoids (states : States) (ps : Ids) : Type 0 where
  pub each : (i k : ℕ) → is_open ps i k ≡ true → state_of states i k ≢ Some Settled

-- Two results are the same while no settled pair is open.
pub record Agree (states : States) (f g : Ids → Result Bool BtfError) : Type 0 where
  pub within : (ps : Ids) → Avoids states ps → f ps ≡ g ps

record Keeps (before after : States) : Type 0 where
  each : (i k : ℕ) → state_of before i k ≡ Some Settled → state_of after i k ≡ Some Settled

later : (before after : States) (f g : Ids → Result Bool BtfError) → Keeps before after
    → Agree before f g → Agree after f g
later before after f g keeps h = record {
  within = λ ps avoids.
      h.within ps
      (record { each = λ i k is was. avoids.each i k is (keeps.each i k was) });
}

-- ---- Open pairs, the last one first

abbrev pub first_of : ℕ → ℕ → OpenPair
first_of l r = record { left = l; right = r; next = 0 }

abbrev pub next_of : OpenPair → OpenPair
next_of p = record p { next = p.next + 1 }

abbrev pub ids_of : List OpenPair → Ids
ids_of [] = []
ids_of (p ∷ stack) = ids_of stack ++ (p.left, p.right) ∷ []

open-push : (stack : List OpenPair) (l r i k : ℕ)
    → is_open (ids_of stack ++ (l, r) ∷ []) i k
    ≡ (is_open (ids_of stack) i k || is_pair l r (i, k))
open-push stack l r i k =
    is_open-push (ids_of stack) l r i k
    ∙ ap (λ (b : Bool). is_open (ids_of stack) i k || b) (same_pair l r i k)

-- No pair is opened twice.
abbrev pub AreFresh : List OpenPair → Type 0
AreFresh [] = ⊤
AreFresh (p ∷ stack) = (is_open (ids_of stack) p.left p.right ≡ false) × AreFresh stack

-- ---- Comparisons

module _ (local target : Table) (asked : ℕ) where
  -- The result for a part while these pairs are open.
  abbrev pub part_answer : Ids → ℕ × ℕ → Result Bool BtfError
  part_answer ps = after_modifiers local target asked (value local target asked ps)

  -- The result for the remaining parts of an open pair.
  abbrev pub rest_answer : OpenPair → Ids → Result Bool BtfError
  rest_answer p ps =
      all_yes (part_answer ps) (drop p.next (pair_parts local target p.left p.right))

  abbrev pub IsYes : States → ℕ → ℕ → Type 0
  IsYes states l r = Agree states (λ ps. value local target asked ps l r) (λ _. Ok true)

  -- The records of an open pair and the parts before its next part are compatible.
  abbrev pub IsUnderWay : States → OpenPair → Type 0
  IsUnderWay states p =
      Agree states
      (λ ps. by_parts local target asked (value local target asked ps) p.left p.right)
      (rest_answer p)

  -- The result for the first open pair, where that for what is inside the last is v.
  unfoldable pub back : List OpenPair → Result Bool BtfError → Result Bool BtfError
  back [] v = v
  back (p ∷ stack) v = back stack (and_also v (rest_answer p (ids_of (p ∷ stack))))

  back-final : (stack : List OpenPair) (v : Result Bool BtfError) → IsFinal v → back stack v ≡ v
  unfolding back
  back-final [] v final = refl
  back-final (p ∷ stack) v final =
      ap (back stack) (final.ends (rest_answer p (ids_of (p ∷ stack)))) ∙ back-final stack v final

  -- A comparison with the result goal, where the result inside the last open pair is v.
  pub record IsWalk (goal v : Result Bool BtfError) (stack : List OpenPair) (states : States)
      : Type 0 where
    pub answer : goal ≡ back stack v
    pub under_way : All (IsUnderWay states) stack
    pub settled : (i k : ℕ) → state_of states i k ≡ Some Settled → IsYes states i k
    pub opened : (i k : ℕ) → is_open (ids_of stack) i k ≡ shows (state_of states i k)
    pub fresh : AreFresh stack

  -- Before the first pair is entered.
  pub begins : (q : ℕ × ℕ) {states : States} → states ≡ []
      → IsWalk (ends_compatible local target asked q) (part_answer [] q) [] states
  unfolding back state_of is_open
  begins q no_states =
      subst (IsWalk (ends_compatible local target asked q) (part_answer [] q) []) (sym no_states)
      (record {
        answer = refl;
        under_way = All-nil (IsUnderWay []);
        settled = λ i k is. absurd cc;
        opened = λ i k. refl;
        fresh = tt;
      })

pub not_entered : {states : States} (l r : ℕ) → states ≡ [] → None ≡ state_of states l r
unfolding state_of
not_entered l r e = sym (ap (λ (s : States). state_of s l r) e)

-- The next part of the last open pair is compared.
module _ {local target : Table} {asked : ℕ} {goal : Result Bool BtfError} {stack : List OpenPair}
    {states : States} (q : ℕ × ℕ)
    (at : IsWalk local target asked goal (part_answer local target asked (ids_of stack) q) stack
    states) where
  pub found : (answer : Result Bool BtfError) → IsFinal answer
      → part_answer local target asked (ids_of stack) q ≡ answer → goal ≡ answer
  unfolding back
  found answer final e =
      at.answer
      ∙ (ap (back local target asked stack) e ∙ back-final local target asked stack answer final)

  module _ (x y : ℕ) (left : Ok x ≡ chain_end max_depth local asked q.0)
      (right : Ok y ≡ chain_end max_depth target asked q.1) where
    met : (ps : Ids) → part_answer local target asked ps q ≡ value local target asked ps x y
    met ps = rw (sym left, sym right) refl

    pub found_open : Some Open ≡ state_of states x y → goal ≡ deep asked
    found_open e =
        found (deep asked) (final_err _)
        (met (ids_of stack)
        ∙ value-open local target asked (ids_of stack) x y (at.opened x y ∙ ap shows (sym e)))

    module _ (none : None ≡ state_of states x y) where
      entered : part_answer local target asked (ids_of stack) q
          ≡ by_parts local target asked
          (value local target asked (ids_of stack ++ (x, y) ∷ [])) x y
      entered =
          met (ids_of stack)
          ∙ value-closed local target asked (ids_of stack) x y
          (at.opened x y ∙ ap shows (sym none))

      pub found_final : (answer : Result Bool BtfError) → IsFinal answer
          → pair_verdict local target x y ≡ answer → goal ≡ answer
      found_final answer final says =
          found answer final
          (entered ∙ (by_verdict local target asked _ x y answer says ∙ final.ends _))

      pub walk_opens : {after : States} → pair_verdict local target x y ≡ Ok true
          → SetsState states after x y Open
          → IsWalk local target asked goal (Ok true) (first_of x y ∷ stack) after
      unfolding back
      walk_opens {after} says sets =
          let test = λ (i k : ℕ). is_pair x y (i, k) in
          let keeps : Keeps states after = record {
            each = λ i k was.
                sets.each i k
                ∙ stays-settled (test i k) Open (state_of states i k)
                (λ is.
                let never = by_pair (λ l r. None ≡ state_of states l r) x y i k is none in
                absurd (let wrong = never ∙ was in cc))
                was;
          } in
          record {
            answer =
                at.answer
                ∙ ap (back local target asked stack)
                (entered ∙ by_verdict local target asked _ x y (Ok true) says);
            under_way =
                All-cons (IsUnderWay local target asked after) (first_of x y) stack
                (record { within = λ ps a. by_verdict local target asked _ x y (Ok true) says })
                (All-weaker (IsUnderWay local target asked states)
                (IsUnderWay local target asked after) (λ p h. later states after _ _ keeps h) stack
                at.under_way);
            settled = λ i k is.
                later states after _ _ keeps
                (at.settled i k
                (was-settled (test i k) (state_of states i k) (sym (sets.each i k) ∙ is)));
            opened = λ i k.
                open-push stack x y i k
                ∙ (shows-opened (is_open (ids_of stack) i k) (test i k) (state_of states i k)
                (at.opened i k)
                ∙ ap shows (sym (sets.each i k)));
            fresh = (at.opened x y ∙ ap shows (sym none), at.fresh);
          }

module _ {local target : Table} {asked : ℕ} {goal : Result Bool BtfError} {p : OpenPair}
    {stack : List OpenPair} {states : States}
    (walk : IsWalk local target asked goal (Ok true) (p ∷ stack) states) where
  top : IsUnderWay local target asked states p
  top = All-head (IsUnderWay local target asked states) p stack walk.under_way

  below_top : All (IsUnderWay local target asked states) stack
  below_top = All-tail (IsUnderWay local target asked states) p stack walk.under_way

  avoids : Avoids states (ids_of (p ∷ stack))
  avoids = record {
    each = λ i k is was.
        absurd (let wrong : true ≡ false = sym is ∙ (walk.opened i k ∙ ap shows was) in cc);
  }

  module _ (q : ℕ × ℕ) (is : Some q ≡ slice_get (pair_parts local target p.left p.right) p.next)
    where
      next_first : (ps : Ids)
          → rest_answer local target asked p ps
          ≡ and_also (part_answer local target asked ps q)
          (all_yes (part_answer local target asked ps)
          (drop (suc p.next) (pair_parts local target p.left p.right)))
      unfolding all_yes
      next_first ps =
          ap (all_yes (part_answer local target asked ps))
          (drop-at (pair_parts local target p.left p.right) p.next q is)

      pub at_part : IsWalk local target asked goal
          (part_answer local target asked (ids_of (p ∷ stack)) q) (p ∷ stack) states
      unfolding back
      at_part =
          let v = part_answer local target asked (ids_of (p ∷ stack)) q in
          let e = next_first (ids_of (p ∷ stack)) in
          record {
            answer =
                walk.answer
                ∙ ap (back local target asked stack)
                (e ∙ (sym (and-twice v _) ∙ ap (and_also v) (sym e)));
            under_way = walk.under_way;
            settled = walk.settled;
            opened = walk.opened;
            fresh = walk.fresh;
          }

      pub walk_advances : (x y : ℕ) → Ok x ≡ chain_end max_depth local asked q.0
          → Ok y ≡ chain_end max_depth target asked q.1 → Some Settled ≡ state_of states x y
          → IsWalk local target asked goal (Ok true) (next_of p ∷ stack) states
      unfolding back
      walk_advances x y left right yes_now =
          let said : (ps : Ids) → Avoids states ps
          → rest_answer local target asked p ps ≡ rest_answer local target asked (next_of p) ps
          = λ ps a.
          next_first ps
          ∙ (ap (λ (v : Result Bool BtfError). and_also v (all_yes (part_answer local target asked ps)
          (drop (suc p.next) (pair_parts local target p.left p.right))))
          (met q at_part x y left right ps ∙ (walk.settled x y (sym yes_now)).within ps a)
          ∙ ap (λ (m : ℕ). all_yes (part_answer local target asked ps)
          (drop m (pair_parts local target p.left p.right))) (sym (one_more p.next))) in
          record {
            answer =
                walk.answer
                ∙ ap (back local target asked stack) (said (ids_of (p ∷ stack)) avoids);
            under_way =
                All-cons (IsUnderWay local target asked states) (next_of p) stack
                (record { within = λ ps a. top.within ps a ∙ said ps a }) below_top;
            settled = walk.settled;
            opened = walk.opened;
            fresh = walk.fresh;
          }

  pub walk_settles : {after : States}
      → None ≡ slice_get (pair_parts local target p.left p.right) p.next
      → SetsState states after p.left p.right Settled
      → IsWalk local target asked goal (Ok true) stack after
  unfolding all_yes back
  walk_settles {after} none sets =
      let test = λ (i k : ℕ). is_pair p.left p.right (i, k) in
      let done : (ps : Ids) → rest_answer local target asked p ps ≡ Ok true
      = λ ps.
      ap (all_yes (part_answer local target asked ps))
      (drop-past (pair_parts local target p.left p.right) p.next none) in
      let before : (i k : ℕ)
      → (is_open (ids_of stack) i k || test i k) ≡ shows (state_of states i k)
      = λ i k. sym (open-push stack p.left p.right i k) ∙ walk.opened i k in
      let keeps : Keeps states after = record {
        each = λ i k was.
            sets.each i k
            ∙ stays-settled (test i k) Settled (state_of states i k) (λ _. refl) was;
      } in
      let now : state_of after p.left p.right ≡ Some Settled
      = sets.each p.left p.right
      ∙ ap (λ (b : Bool). cond b (Some Settled) (state_of states p.left p.right))
      (pair-self p.left p.right) in
      let yes_here : IsYes local target asked after p.left p.right = record {
        within = λ ps a.
            let closed = false_from_ne_true (is_open ps p.left p.right)
            (λ is. a.each p.left p.right is now) in
            value-closed local target asked ps p.left p.right closed
            ∙ (top.within (ps ++ (p.left, p.right) ∷ []) (record {
              each = λ i k is was.
                  elim (or_cases _ _ (sym (is_open-push ps p.left p.right i k) ∙ is)) [
                    | inl outside ↦ a.each i k outside (keeps.each i k was)
                    | inr here ↦
                        let opened = or_right (is_open (ids_of stack) i k) (test i k)
                        (sym (same_pair p.left p.right i k) ∙ here) in
                        absurd (let wrong : true ≡ false
                        = sym opened ∙ (before i k ∙ ap shows was) in cc)
                  ];
            }) ∙ done _);
      } in
      record {
        answer =
            walk.answer
            ∙ ap (back local target asked stack) (done (ids_of (p ∷ stack)));
        under_way =
            All-weaker (IsUnderWay local target asked states) (IsUnderWay local target asked after)
            (λ q h. later states after _ _ keeps h) stack below_top;
        settled = λ i k is.
            elim (cases_Bool (test i k)) [
              | inl here ↦ by_pair (IsYes local target asked after) p.left p.right i k here yes_here
              | inr other ↦
                  later states after _ _ keeps
                  (walk.settled i k
                  (ap (λ (b : Bool). cond b (Some Settled) (state_of states i k)) (sym other)
                  ∙ (sym (sets.each i k) ∙ is)))
            ];
        opened = λ i k.
            shows-settled (is_open (ids_of stack) i k) (test i k) (state_of states i k)
            (λ here.
            by_pair (λ l r. is_open (ids_of stack) l r ≡ false) p.left p.right i k here
            walk.fresh.0)
            (before i k)
            ∙ ap shows (sym (sets.each i k));
        fresh = walk.fresh.1;
      }

-- ---- The stack, with its last pair at the end

abbrev pub IsStack : Table → Table → ℕ → Result Bool BtfError → List OpenPair → States → Type 0
IsStack local target asked goal items states =
    IsWalk local target asked goal (Ok true) (reverse items) states

pub reversed : (items rest : List OpenPair) (p : OpenPair) → items ≡ rest ++ p ∷ []
    → reverse items ≡ p ∷ reverse rest
reversed items rest p e = ap (reverse {A = OpenPair}) e ∙ reverse-append rest (p ∷ [])

module _ {local target : Table} {asked : ℕ} {goal : Result Bool BtfError} {states : States} where
  pub popped : (items rest : List OpenPair) (p : OpenPair)
      → IsStack local target asked goal items states → items ≡ rest ++ p ∷ []
      → IsWalk local target asked goal (Ok true) (p ∷ reverse rest) states
  popped items rest p walk e =
      subst (λ (xs : List OpenPair). IsWalk local target asked goal (Ok true) xs states)
      (reversed items rest p e) walk

  pub pushed : {stack : List OpenPair} {p : OpenPair} (items rest : List OpenPair)
      → IsWalk local target asked goal (Ok true) (p ∷ stack) states → reverse rest ≡ stack
      → items ≡ rest ++ p ∷ [] → IsStack local target asked goal items states
  pushed {stack} {p} items rest walk same e =
      subst (λ (xs : List OpenPair). IsWalk local target asked goal (Ok true) xs states)
      (sym (reversed items rest p e ∙ ap (λ (xs : List OpenPair). p ∷ xs) same)) walk

  pub unchanged : (items others : List OpenPair) → IsStack local target asked goal items states
      → others ≡ items → IsStack local target asked goal others states
  unchanged items others walk e =
      subst (λ (xs : List OpenPair). IsStack local target asked goal xs states) (sym e) walk

  pub finished : (items : List OpenPair) → IsStack local target asked goal items states
      → items ≡ [] → goal ≡ Ok true
  unfolding back
  finished items walk none =
      walk.answer
      ∙ ap (λ (xs : List OpenPair). back local target asked (reverse xs) (Ok true)) none

-- Facts that are weakened until they meet some paths.
use Rattle.std.proofs.Common.{◌≡◌, ◌≢◌, ◌≤◌, ◌<◌, ◌⊎◌, ℕ, zero, suc, ◌+◌, List, [], ◌∷◌, ◌++◌, length, set, Option, Some, None, refl, sym, ap, ◌∙◌, subst, inl, inr, arith, length-set, length-append, get_or, ℤ, pos, negsuc, ◌≤ℤ◌, ◌<ℤ◌}
use Rattle.std.proofs.lemmas.Bool.Decides.{eqb_tells}
use Rattle.std.proofs.lemmas.Int.{ints}
use Rattle.std.specs.Prelude.{slice_get}
use Rattle.std.proofs.lemmas.List.Sums.{sum_by-set}
use Rattle.std.proofs.lemmas.Option.{slice_get_within, slice_get_past, get_or_from_slice_get}
use Rattle.plan_values.specs.Knowledge.{Known, IsWithin, meet}
use Rattle.plan_registers.specs.Flow.{Way}
use Rattle.plan_registers.specs.Reach.{Facts, IsMet, fact_at, AllMet, IsBelow, flat_option}
use Rattle.plan_registers.specs.Work.{State, raised, Has, count, rank, effort, Joins}
use Rattle.plan_values.proofs.Within.{within_refl, within_trans, meet_left, meet_right, meet_greatest}
use Rattle.plan_registers.proofs.Counting.{count_le, count_most, count_same}
use Rattle.plan_registers.proofs.Flows.{all_append, all_front, all_back}

-- Elements of lists by index.

abbrev Fact : Type 0
Fact = Option Known

pub get_set_same : {A : Type 0} → (fs : List A) (n : ℕ) (x y : A) → slice_get fs n ≡ Some y → slice_get (set fs n x) n ≡ Some x
get_set_same [] n x y e = absurd (cc)
get_set_same (f ∷ fs) zero x y e = refl
get_set_same (f ∷ fs) (suc n) x y e = get_set_same fs n x y e

pub get_set_other : {A : Type 0} → (fs : List A) (n : ℕ) (x : A) (k : ℕ) → k ≢ n → slice_get (set fs n x) k ≡ slice_get fs k
get_set_other [] n x k d = refl
get_set_other (f ∷ fs) zero x zero d = absurd (d refl)
get_set_other (f ∷ fs) zero x (suc k) d = refl
get_set_other (f ∷ fs) (suc n) x zero d = refl
get_set_other (f ∷ fs) (suc n) x (suc k) d = get_set_other fs n x k (λ (e : k ≡ n). d (ap (λ (i : ℕ). suc i) e))

pub none_too : {A B : Type 0} → (xs : List A) (ys : List B) (n : ℕ) → length xs ≡ length ys → slice_get xs n ≡ None → slice_get ys n ≡ None
none_too [] [] n e h = refl
none_too [] (y ∷ ys) n e h = absurd (omega arith)
none_too (x ∷ xs) [] n e h = refl
none_too (x ∷ xs) (y ∷ ys) zero e h = absurd (cc)
none_too (x ∷ xs) (y ∷ ys) (suc n) e h = none_too xs ys n (omega arith) h

pub same_or_not : (a b : ℕ) → (a ≡ b) ⊎ (a ≢ b)
same_or_not a b = elim (eqb_tells a b) [ inl p ↦ inl p.1 | inr p ↦ inr p.1 ]

-- The order of facts is reflexive and transitive.

pub below_refl : (f : Facts) → IsBelow f f
below_refl f = record { each = λ slot known h. (known, h, within_refl known) }

pub below_trans : (f g h : Facts) → IsBelow f g → IsBelow g h → IsBelow f h
below_trans f g h p q = record {
  each = λ slot known e.
      let a = p.each slot known e in
      let b = q.each slot a.0 a.1 in
      (b.0, b.1, within_trans b.0 a.0 known b.2 a.2);
}

pub met_after_at : (f g : Facts) (n : ℕ) (k : Known) (o : Option Fact) → slice_get f n ≡ o → length f ≡ length g → IsBelow f g → IsMet o k → IsMet (slice_get g n) k
met_after_at f g n k None e l b m = subst (λ (o : Option Fact). IsMet o k) (sym (none_too f g n l e)) tt
met_after_at f g n k (Some None) e l b m = absurd m
met_after_at f g n k (Some (Some there)) e l b m =
    let a = b.each n there e in
    subst (λ (o : Option Fact). IsMet o k) (sym a.1) (within_trans a.0 there k a.2 m)

pub met_after : (f g : Facts) (z : ℤ) (k : Known) → length f ≡ length g → IsBelow f g → IsMet (fact_at f z) k → IsMet (fact_at g z) k
met_after f g (pos n) k l b m = met_after_at f g n k (slice_get f n) refl l b m
met_after f g (negsuc n) k l b m = tt

pub all_after : (f g : Facts) (ws : List Way) → length f ≡ length g → IsBelow f g → AllMet f ws → AllMet g ws
all_after f g [] l b m = tt
all_after f g (w ∷ ws) l b m = (met_after f g w.to w.known l b m.0, all_after f g ws l b m.1)

-- The slots of an extended list.

pub has_front : (xs ys : List ℕ) (n : ℕ) → Has xs n → Has (xs ++ ys) n
has_front [] ys n h = absurd h
has_front (x ∷ xs) ys n (inl e) = inl e
has_front (x ∷ xs) ys n (inr h) = inr (has_front xs ys n h)

pub has_last : (xs : List ℕ) (n : ℕ) → Has (xs ++ n ∷ []) n
has_last [] n = inl refl
has_last (x ∷ xs) n = inr (has_last xs n)

pub has_split : (xs : List ℕ) (m n : ℕ) → Has (xs ++ m ∷ []) n → Has xs n ⊎ (m ≡ n)
has_split [] m n (inl e) = inr e
has_split [] m n (inr h) = absurd h
has_split (x ∷ xs) m n (inl e) = inl (inl e)
has_split (x ∷ xs) m n (inr h) = elim (has_split xs m n h) [ inl g ↦ inl (inr g) | inr e ↦ inr e ]

-- No path, and one path after another.

pub joins_none : (s : State) → Joins s s []
joins_none s = record {
  size = refl;
  weaker = below_refl s.facts;
  met = tt;
  least = λ other l a b. b;
  listed = λ slot. inl refl;
  kept = λ slot h. h;
  falls = omega arith;
}

pub joins_append : (a b c : State) (ws xs : List Way) → Joins a b ws → Joins b c xs → Joins a c (ws ++ xs)
joins_append a b c ws xs p q = record {
  size = q.size ∙ p.size;
  weaker = below_trans a.facts b.facts c.facts p.weaker q.weaker;
  met = all_append c.facts ws xs (all_after b.facts c.facts ws (sym q.size) q.weaker p.met) q.met;
  least = λ other l m below. q.least other (l ∙ sym p.size) (all_back other ws xs m) (p.least other l (all_front other ws xs m) below);
  listed = λ slot. elim (q.listed slot) [ inl e ↦ (elim (p.listed slot) [ inl f ↦ inl (e ∙ f) | inr h ↦ inr (q.kept slot h) ]) | inr h ↦ inr h ];
  kept = λ slot h. q.kept slot (p.kept slot h);
  falls = let x = p.falls in let y = q.falls in omega arith;
}

-- One path.

abbrev pub to_slot : ℕ → Known → List Way
to_slot n k = record { to = pos n; known = k } ∷ []

pub joins_outside : (s : State) (z : ℤ) (k : Known) → fact_at s.facts z ≡ None → Joins s s (record { to = z; known = k } ∷ [])
joins_outside s z k e = record {
  size = refl;
  weaker = below_refl s.facts;
  met = (subst (λ (o : Option Fact). IsMet o k) (sym e) tt, tt);
  least = λ other l a b. b;
  listed = λ slot. inl refl;
  kept = λ slot h. h;
  falls = omega arith;
}

pub joins_same : (s : State) (n : ℕ) (k there : Known) → slice_get s.facts n ≡ Some (Some there) → IsWithin there k → Joins s s (to_slot n k)
joins_same s n k there e p = record {
  size = refl;
  weaker = below_refl s.facts;
  met = (subst (λ (o : Option Fact). IsMet o k) (sym e) p, tt);
  least = λ other l a b. b;
  listed = λ slot. inl refl;
  kept = λ slot h. h;
  falls = omega arith;
}

-- The registers `m` are the most that are known both along the path and at the slot before.
pub record IsJoined (o : Fact) (k m : Known) : Type 0 where
  pub along : IsWithin m k
  pub before : (old : Known) → o ≡ Some old → IsWithin m old
  pub greatest : (c : Known) → IsWithin c k → ((old : Known) → o ≡ Some old → IsWithin c old) → IsWithin c m
  pub lower : rank (Some m) + 1 ≤ rank o

module _ (s : State) (n : ℕ) (k m : Known) (o : Fact) (at : slice_get s.facts n ≡ Some o) (j : IsJoined o k m) where
  abbrev new : Facts
  new = set s.facts n (Some m)

  weaker_at : (slot : ℕ) (known : Known) → slice_get s.facts slot ≡ Some (Some known) → (slot ≡ n) ⊎ (slot ≢ n) → (there : Known) × (slice_get new slot ≡ Some (Some there)) × IsWithin there known
  weaker_at slot known e (inl same) =
      let old : o ≡ Some known = cc (ap (λ (i : ℕ). slice_get s.facts i) same) in
      (m, ap (λ (i : ℕ). slice_get new i) same ∙ get_set_same s.facts n (Some m) o at, j.before known old)
  weaker_at slot known e (inr other) = (known, get_set_other s.facts n (Some m) slot other ∙ e, within_refl known)

  least_here : (other : Facts) (f : Option Fact) → slice_get other n ≡ f → length other ≡ length s.facts → IsMet f k → IsBelow s.facts other → (there : Known) × (slice_get other n ≡ Some (Some there)) × IsWithin there m
  least_here other None e l a b = absurd (let x = none_too other s.facts n l e in cc)
  least_here other (Some None) e l a b = absurd a
  least_here other (Some (Some there)) e l a b = (
    there,
    e,
    j.greatest there a (λ old q.
        let h = b.each n old (at ∙ ap (λ (f : Fact). Some f) q) in
        let same : h.0 ≡ there = cc (h.1, e) in
        subst (λ (c : Known). IsWithin c old) same h.2),
  )

  least_at : (other : Facts) → length other ≡ length s.facts → IsMet (slice_get other n) k → IsBelow s.facts other → (slot : ℕ) (known : Known) → slice_get new slot ≡ Some (Some known) → (slot ≡ n) ⊎ (slot ≢ n) → (there : Known) × (slice_get other slot ≡ Some (Some there)) × IsWithin there known
  least_at other l a b slot known e (inl same) =
      let h = least_here other (slice_get other n) refl l a b in
      let g = get_set_same s.facts n (Some m) o at in
      let known_is : m ≡ known = cc (ap (λ (i : ℕ). slice_get new i) same, g, e) in
      (h.0, ap (λ (i : ℕ). slice_get other i) same ∙ h.1, subst (λ (c : Known). IsWithin h.0 c) known_is h.2)
  least_at other l a b slot known e (inr differs) =
      b.each slot known (sym (get_set_other s.facts n (Some m) slot differs) ∙ e)

  listed_at : (slot : ℕ) → (slot ≡ n) ⊎ (slot ≢ n) → (slice_get new slot ≡ slice_get s.facts slot) ⊎ Has (s.pending ++ n ∷ []) slot
  listed_at slot (inl same) = inr (subst (λ (i : ℕ). Has (s.pending ++ n ∷ []) i) (sym same) (has_last s.pending n))
  listed_at slot (inr other) = inl (get_set_other s.facts n (Some m) slot other)

  falls_here : effort (raised s n m) ≤ effort s
  falls_here =
      let within : n < length s.facts = slice_get_within s.facts n o at in
      let sum = sum_by-set rank s.facts n (Some m) o within in
      let was : rank (get_or s.facts n o) ≡ rank o = ap rank (get_or_from_slice_get s.facts n o o at) in
      let low = j.lower in
      let long = length-append s.pending (n ∷ []) in
      omega (arith, sum, was, low, long)

  pub joins_raised : Joins s (raised s n m) (to_slot n k)
  joins_raised = record {
    size = length-set s.facts n (Some m);
    weaker = record { each = λ slot known e. weaker_at slot known e (same_or_not slot n) };
    met = (subst (λ (f : Option Fact). IsMet f k) (sym (get_set_same s.facts n (Some m) o at)) j.along, tt);
    least = λ other l a b. record { each = λ slot known e. least_at other l a.0 b slot known e (same_or_not slot n) };
    listed = λ slot. listed_at slot (same_or_not slot n);
    kept = λ slot h. has_front s.pending (n ∷ []) slot h;
    falls = falls_here;
  }

-- The cases of a slot that was reached before or not.

pub joined_first : (k : Known) → length k ≡ 32 → IsJoined None k k
joined_first k l = record {
  along = within_refl k;
  before = λ old e. absurd (cc);
  greatest = λ c p q. p;
  lower = omega (arith, count_most k, l);
}

pub joined_again : (there k : Known) → length there ≡ length k → meet there k ≢ there → IsJoined (Some there) k (meet there k)
joined_again there k l d = record {
  along = meet_right there k l;
  before = λ old e. subst (λ (o : Known). IsWithin (meet there k) o) (cc) (meet_left there k l);
  greatest = λ c p q. meet_greatest c there k (q there refl) p;
  lower =
      let fewer : count (meet there k) ≢ count there = λ (e : count (meet there k) ≡ count there). d (count_same (meet there k) there (meet_left there k l) e) in
      omega (arith, count_le (meet there k) there (meet_left there k l));
}

pub within_same : (there k : Known) → length there ≡ length k → meet there k ≡ there → IsWithin there k
within_same there k l e = subst (λ (m : Known). IsWithin m k) e (meet_right there k l)

-- The fact of a slot of the program.

at_none : (fs : Facts) (n : ℕ) (f : Option Fact) → slice_get fs n ≡ f → n < length fs → flat_option f ≡ None → slice_get fs n ≡ Some None
at_none [] n f g h e = absurd (omega arith)
at_none (x ∷ xs) zero f g h e = ap (λ (o : Fact). Some o) (ap (λ (o : Option Fact). flat_option o) g ∙ e)
at_none (x ∷ xs) (suc n) f g h e = at_none xs n f g (omega arith) e

at_some : (f : Option Fact) (k : Known) → flat_option f ≡ Some k → f ≡ Some (Some k)
at_some None k e = absurd (cc)
at_some (Some o) k e = ap (λ (x : Fact). Some x) e

pub join_first : (s later : State) (n : ℕ) (k m : Known) → n < length s.facts → flat_option (slice_get s.facts n) ≡ None → length k ≡ 32 → m ≡ k → later ≡ raised s n m → Joins s later (to_slot n k)
join_first s later n k m h e l i r =
    let at : slice_get s.facts n ≡ Some None = at_none s.facts n (slice_get s.facts n) refl h e in
    subst (λ (t : State). Joins s t (to_slot n k)) (sym (r ∙ ap (λ (x : Known). raised s n x) i)) (joins_raised s n k k None at (joined_first k l))

pub join_same : (s : State) (n : ℕ) (k there : Known) → flat_option (slice_get s.facts n) ≡ Some there → length there ≡ length k → meet there k ≡ there → Joins s s (to_slot n k)
join_same s n k there e l c = joins_same s n k there (at_some (slice_get s.facts n) there e) (within_same there k l c)

pub join_again : (s later : State) (n : ℕ) (k there m : Known) → flat_option (slice_get s.facts n) ≡ Some there → length there ≡ length k → meet there k ≢ there → m ≡ meet there k → later ≡ raised s n m → Joins s later (to_slot n k)
join_again s later n k there m e l c i r =
    subst (λ (t : State). Joins s t (to_slot n k)) (sym (r ∙ ap (λ (x : Known). raised s n x) i))
    (joins_raised s n k (meet there k) (Some there) (at_some (slice_get s.facts n) there e) (joined_again there k l c))

outside_low : (fs : Facts) (z : ℤ) → z <ℤ pos 0 → fact_at fs z ≡ None
outside_low fs (pos n) h = absurd (omega (arith, ints))
outside_low fs (negsuc n) h = refl

outside_high : (fs : Facts) (z : ℤ) → pos (length fs) ≤ℤ z → fact_at fs z ≡ None
outside_high fs (pos n) h = slice_get_past fs n (omega (arith, ints))
outside_high fs (negsuc n) h = refl

pub join_low : (s : State) (z : ℤ) (k : Known) → z <ℤ pos 0 → Joins s s (record { to = z; known = k } ∷ [])
join_low s z k h = joins_outside s z k (outside_low s.facts z h)

pub join_high : (s : State) (z : ℤ) (k : Known) → pos (length s.facts) ≤ℤ z → Joins s s (record { to = z; known = k } ∷ [])
join_high s z k h = joins_outside s z k (outside_high s.facts z h)

pub join_inside : (s later : State) (z : ℤ) (n : ℕ) (k : Known) → pos n ≡ z → Joins s later (to_slot n k) → Joins s later (record { to = z; known = k } ∷ [])
join_inside s later z n k e j = subst (λ (y : ℤ). Joins s later (record { to = y; known = k } ∷ [])) e j

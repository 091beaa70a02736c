-- The work list from its start to its end.
use Rattle.std.proofs.Common.{◌≡◌, ◌≢◌, ◌<◌, ◌≤◌, ◌⊎◌, ℕ, zero, suc, ◌+◌, ◌-◌, ◌*◌, Bool, true, false, ◌&&◌, cond, List, [], ◌∷◌, ◌++◌, length, take, drop, get_or, Option, Some, None, refl, sym, ap, ◌∙◌, subst, inl, inr, arith, length-append, nat_lt, ℤ, pos, Vec, add-one}
use Rattle.std.proofs.lemmas.Bool.{lt-ltb, le-ltb, ltb-true, ltb-false}
use Rattle.std.proofs.lemmas.List.{append-nil, append_assoc, at_drop_more, length-replicate}
use Rattle.std.proofs.lemmas.Option.{slice_get_within, slice_get_past, slice_get_read}
use Rattle.std.specs.Prelude.{not, slice_get, sum_by}
use Rattle.std.specs.declared.alloc.Global.{Global}
use Rattle.ebpf_items.specs.declared.instruction.bpf_insn.{bpf_insn}
use Rattle.ebpf_items.specs.Instruction.{is_pseudo_call}
use Rattle.plan_registers.specs.Flow.{Way, back_with, ended, entered, inner_ways, is_global, result_at, to_slot}
use Rattle.plan_values.specs.Knowledge.{Known, any_entry, at_start, IsWithin}
use Rattle.plan_values.specs.Programs.{Code, function_of, index_in, target}
use Rattle.plan_registers.specs.Reach.{Facts, IsMet, AllMet, callee_result, flat_option, global_roots, result_in, roots_at, ways_from, ways_at, IsClosed, IsBelow, IsLeast}
use Rattle.plan_registers.specs.Work.{AreCalls, HasCall, HasOne, IsCallListed, State, Has, call_sources, first_state, listed_at, listed_in, no_facts, effort, raised, rank, Joins, IsUnderway, result_source, resting, sources}
use Rattle.plan_values.proofs.Within.{within_refl}
use Rattle.plan_registers.proofs.Flows.{ResultWithin, ways_within}
use Rattle.plan_registers.proofs.Joining.{met_after_at, all_after, has_split, joins_append, joins_none}

-- The paths of facts that lie below closed facts are met by the closed facts.

unknown_result : (o : Option Known) → ResultWithin o None
unknown_result None = tt
unknown_result (Some k) = tt

below_at : (facts other : Facts) (n : ℕ) (f : Option (Option Known)) → slice_get facts n ≡ f → IsBelow facts other → ResultWithin (flat_option (slice_get other n)) (flat_option f)
below_at facts other n None e b = unknown_result (flat_option (slice_get other n))
below_at facts other n (Some None) e b = unknown_result (flat_option (slice_get other n))
below_at facts other n (Some (Some k)) e b =
    let h = b.each n k e in
    subst (λ (f : Option (Option Known)). ResultWithin (flat_option f) (Some k)) (sym h.1) h.2

result_below : (code : Code) (facts other : Facts) (o : Option ℕ) → IsBelow facts other → ResultWithin (result_in code other o) (result_in code facts o)
result_below code facts other None b = tt
result_below code facts other (Some slot) b = below_at facts other (result_at code slot) (slice_get facts (result_at code slot)) refl b

closed_meet_at : (code : Code) (facts other : Facts) (slot : ℕ) (o : Option bpf_insn) (f : Option (Option Known)) → slice_get code.slots slot ≡ o → slice_get facts slot ≡ f → IsBelow facts other → IsClosed code other → AllMet other (ways_from code slot o f facts)
closed_meet_at code facts other slot None f e g b c = tt
closed_meet_at code facts other slot (Some s) None e g b c = tt
closed_meet_at code facts other slot (Some s) (Some None) e g b c = tt
closed_meet_at code facts other slot (Some s) (Some (Some known)) e g b c =
    let h = b.each slot known g in
    let all : AllMet other (ways_from code slot (slice_get code.slots slot) (slice_get other slot) other) = c.ways slot in
    let here : AllMet other (ways_from code slot (Some s) (Some (Some h.0)) other) =
    subst (λ (f : Option (Option Known)). AllMet other (ways_from code slot (Some s) f other)) h.1 (subst (λ (o : Option bpf_insn). AllMet other (ways_from code slot o (slice_get other slot) other)) e all) in
    ways_within other code s (slice_get code.slots (slot + 1)) slot h.0 known (callee_result code other s slot) (callee_result code facts s slot) h.2 (result_below code facts other (index_in (length code.slots) (target s slot)) b) here

closed_meet : (code : Code) (facts other : Facts) (slot : ℕ) → IsBelow facts other → IsClosed code other → AllMet other (ways_at code facts slot)
closed_meet code facts other slot b c = closed_meet_at code facts other slot (slice_get code.slots slot) (slice_get facts slot) refl refl b c

-- Paths are the same where the facts are the same on which they rest.

abbrev IsSame : Facts → Facts → List ℕ → Type 0
IsSame old new ns = (n : ℕ) → Has ns n → slice_get new n ≡ slice_get old n

result_same : (code : Code) (old new : Facts) (o : Option ℕ) → IsSame old new (result_source code o) → result_in code new o ≡ result_in code old o
result_same code old new None h = refl
result_same code old new (Some t) h = ap (λ (f : Option (Option Known)). flat_option f) (h (result_at code t) (inl refl))

back_same : (code : Code) (slot : ℕ) (k : Known) (v w : Bool) (o q : Option Known) → (v ≡ true → o ≡ q) → cond (v && w) (back_with code slot k o) [] ≡ cond (v && w) (back_with code slot k q) []
back_same code slot k true w o q e = ap (λ (r : Option Known). cond w (back_with code slot k r) []) (e refl)
back_same code slot k false w o q e = refl

at_call : (code : Code) (v : Bool) (o : Option ℕ) (old new : Facts) → v ≡ true → IsSame old new (cond v (result_source code o) []) → IsSame old new (result_source code o)
at_call code true o old new e h = h
at_call code false o old new e h = absurd (cc)

from_same : (code : Code) (slot : ℕ) (o : Option bpf_insn) (f : Option (Option Known)) (old new : Facts) → IsSame old new (call_sources code slot o) → ways_from code slot o f new ≡ ways_from code slot o f old
from_same code slot None f old new h = refl
from_same code slot (Some s) None old new h = refl
from_same code slot (Some s) (Some None) old new h = refl
from_same code slot (Some s) (Some (Some k)) old new h =
    ap (λ (ws : List Way). inner_ways code s (slice_get code.slots (slot + 1)) slot k ++ (entered code s slot k ++ (ended code s slot k ++ ws)))
    (back_same code slot k (is_pseudo_call s) (not (is_global code (target s slot))) (callee_result code new s slot) (callee_result code old s slot)
    (λ e. result_same code old new (index_in (length code.slots) (target s slot)) (at_call code (is_pseudo_call s) (index_in (length code.slots) (target s slot)) old new e h)))

ways_same : (code : Code) (slot : ℕ) (old new : Facts) → IsSame old new (sources code slot) → ways_at code new slot ≡ ways_at code old slot
ways_same code slot old new h =
    ap (λ (f : Option (Option Known)). ways_from code slot (slice_get code.slots slot) f new) (h slot (inl refl))
    ∙ from_same code slot (slice_get code.slots slot) (slice_get old slot) old new (λ n g. h n (inr g))

-- The paths from a slot are followed.

one_kept : (xs ys ns : List ℕ) → ((n : ℕ) → Has xs n → Has ys n) → HasOne xs ns → HasOne ys ns
one_kept xs ys [] f h = absurd h
one_kept xs ys (n ∷ ns) f (inl h) = inl (f n h)
one_kept xs ys (n ∷ ns) f (inr h) = inr (one_kept xs ys ns f h)

module _ (code : Code) (old new : State) (ws : List Way) (j : Joins old new ws) where
  changed : (ns : List ℕ) → IsSame old.facts new.facts ns ⊎ HasOne new.pending ns
  changed [] = inl (λ n h. absurd h)
  changed (n ∷ ns) = elim (j.listed n) [
    | inl e ↦ elim (changed ns) [
      | inl f ↦ inl (λ m g. elim g [ inl q ↦ subst (λ (i : ℕ). slice_get new.facts i ≡ slice_get old.facts i) q e | inr r ↦ f m r ])
      | inr h ↦ inr (inr h)
    ]
    | inr h ↦ inr (inl h)
  ]

  met_or_listed : (rest : List ℕ) (slot : ℕ) → AllMet new.facts (ways_at code old.facts slot) → AllMet new.facts (ways_at code new.facts slot) ⊎ (Has rest slot ⊎ HasOne new.pending (sources code slot))
  met_or_listed rest slot m = elim (changed (sources code slot)) [
    | inl f ↦ inl (subst (λ (ws : List Way). AllMet new.facts ws) (sym (ways_same code slot old.facts new.facts f)) m)
    | inr h ↦ inr (inr h)
  ]

  from_met : (rest : List ℕ) (slot : ℕ) → AllMet old.facts (ways_at code old.facts slot) → AllMet new.facts (ways_at code new.facts slot) ⊎ (Has rest slot ⊎ HasOne new.pending (sources code slot))
  from_met rest slot m = met_or_listed rest slot (all_after old.facts new.facts _ (sym j.size) j.weaker m)

  from_listed : (rest : List ℕ) (slot : ℕ) → HasOne old.pending (sources code slot) → AllMet new.facts (ways_at code new.facts slot) ⊎ (Has rest slot ⊎ HasOne new.pending (sources code slot))
  from_listed rest slot h = inr (inr (one_kept old.pending new.pending (sources code slot) j.kept h))

module _ (code : Code) (old new : State) (position : ℕ) (rest : List ℕ) (u : IsUnderway code old (position ∷ rest)) (j : Joins old new (ways_at code old.facts position)) where
  from_rest : (slot : ℕ) → Has (position ∷ rest) slot ⊎ HasOne old.pending (sources code slot) → AllMet new.facts (ways_at code new.facts slot) ⊎ (Has rest slot ⊎ HasOne new.pending (sources code slot))
  from_rest slot (inl (inl e)) = met_or_listed code old new (ways_at code old.facts position) j rest slot (subst (λ (n : ℕ). AllMet new.facts (ways_at code old.facts n)) e j.met)
  from_rest slot (inl (inr h)) = inr (inl h)
  from_rest slot (inr h) = from_listed code old new (ways_at code old.facts position) j rest slot h

  from_old : (slot : ℕ) → AllMet old.facts (ways_at code old.facts slot) ⊎ (Has (position ∷ rest) slot ⊎ HasOne old.pending (sources code slot)) → AllMet new.facts (ways_at code new.facts slot) ⊎ (Has rest slot ⊎ HasOne new.pending (sources code slot))
  from_old slot (inl m) = from_met code old new (ways_at code old.facts position) j rest slot m
  from_old slot (inr h) = from_rest slot h

  pub still_underway : IsUnderway code new rest
  still_underway = record {
    size = j.size ∙ u.size;
    start = met_after_at old.facts new.facts 0 at_start (slice_get old.facts 0) refl (sym j.size) j.weaker u.start;
    roots = all_after old.facts new.facts (global_roots code) (sym j.size) j.weaker u.roots;
    ways = λ slot. from_old slot (u.ways slot);
    least = λ other c. j.least other (c.size ∙ sym u.size) (closed_meet code old.facts other position (u.least other c) c) (u.least other c);
  }

-- The paths from one more of some positions are followed.
pub each_next : (code : Code) (old new : State) (ps : List ℕ) (i d : ℕ) → i < length ps → IsUnderway code old (drop i ps) → Joins old new (ways_at code old.facts (get_or ps i d)) → IsUnderway code new (drop (i + 1) ps)
each_next code old new ps i d h u j =
    still_underway code old new (get_or ps i d) (drop (i + 1) ps) (subst (λ (ns : List ℕ). IsUnderway code old ns) (at_drop_more (λ (ns : List ℕ). ns) ps i d h) u) j

-- One of the facts is taken off the list, and the slots that rest on it are to be followed.

one_split : (ps : List ℕ) (m : ℕ) (ns : List ℕ) → HasOne (ps ++ m ∷ []) ns → HasOne ps ns ⊎ Has ns m
one_split ps m [] h = absurd h
one_split ps m (n ∷ ns) (inl h) = elim (has_split ps m n h) [ inl g ↦ inl (inl g) | inr e ↦ inr (inl (sym e)) ]
one_split ps m (n ∷ ns) (inr h) = elim (one_split ps m ns h) [ inl g ↦ inl (inr g) | inr g ↦ inr (inr g) ]

rests_at : (code : Code) (lists : List (Vec ℕ Global)) (index f slot : ℕ) → index ≡ length code.slots + f → Has (listed_at lists f) slot → Has (resting code lists index) slot
rests_at code lists index f slot e h =
    let past : nat_lt index (length code.slots) ≡ false = le-ltb index (length code.slots) (omega (arith, e)) in
    let same : index - length code.slots ≡ f = omega (arith, e) in
    subst (λ (v : Bool). Has (cond v (index ∷ []) (listed_at lists (index - length code.slots))) slot) (sym past)
    (subst (λ (i : ℕ). Has (listed_at lists i) slot) (sym same) h)

rests_itself : (code : Code) (lists : List (Vec ℕ Global)) (slot : ℕ) → slot < length code.slots → Has (resting code lists slot) slot
rests_itself code lists slot h =
    subst (λ (v : Bool). Has (cond v (slot ∷ []) (listed_at lists (slot - length code.slots))) slot) (sym (lt-ltb slot (length code.slots) h)) (inl refl)

resting_high : (code : Code) (lists : List (Vec ℕ Global)) (index : ℕ) → length code.slots ≤ index → resting code lists index ≡ listed_at lists (index - length code.slots)
resting_high code lists index h =
    ap (λ (v : Bool). cond v (index ∷ []) (listed_at lists (index - length code.slots))) (le-ltb index (length code.slots) h)

resting_from : (code : Code) (s : State) (lists : List (Vec ℕ Global)) (index i : ℕ) (o : Option (Vec ℕ Global)) → length code.slots ≤ index → index - length code.slots ≡ i → slice_get lists i ≡ o → IsUnderway code s (resting code lists index) → IsUnderway code s (listed_in o)
resting_from code s lists index i o h f e u =
    subst (λ (ns : List ℕ). IsUnderway code s ns)
    (resting_high code lists index h ∙ (ap (λ (k : ℕ). listed_at lists k) f ∙ ap (λ (p : Option (Vec ℕ Global)). listed_in p) e)) u

pub underway_listed : (code : Code) (s : State) (lists : List (Vec ℕ Global)) (index : ℕ) (list : Vec ℕ Global) (i : ℕ) → length code.slots ≤ index → index - length code.slots ≡ i → i < length lists → list ≡ get_or lists i list → IsUnderway code s (resting code lists index) → IsUnderway code s list.items
underway_listed code s lists index list i h f l e u =
    resting_from code s lists index i (Some list) h f (slice_get_read lists (length lists) i list refl l e) u

pub underway_past : (code : Code) (s : State) (lists : List (Vec ℕ Global)) (index i : ℕ) → length code.slots ≤ index → index - length code.slots ≡ i → length lists ≤ i → IsUnderway code s (resting code lists index) → IsUnderway code s []
underway_past code s lists index i h f l u =
    resting_from code s lists index i None h f (slice_get_past lists i l) u

by_call : (code : Code) (lists : List (Vec ℕ Global)) (slot index : ℕ) (v : Bool) (o : Option ℕ) → (v ≡ true → HasCall code lists slot o) → Has (cond v (result_source code o) []) index → Has (resting code lists index) slot
by_call code lists slot index true None f h = absurd h
by_call code lists slot index true (Some t) f (inl e) = rests_at code lists index (function_of code t) slot (sym e) (f refl)
by_call code lists slot index true (Some t) f (inr h) = absurd h
by_call code lists slot index false o f h = absurd h

call_rests : (code : Code) (lists : List (Vec ℕ Global)) (slot index : ℕ) (o : Option bpf_insn) → slice_get code.slots slot ≡ o → AreCalls code lists (length code.slots) → Has (call_sources code slot o) index → Has (resting code lists index) slot
call_rests code lists slot index None e c h = absurd h
call_rests code lists slot index (Some s) e c h =
    let listed : IsCallListed code lists slot (Some s) = subst (λ (o : Option bpf_insn). IsCallListed code lists slot o) e (c.each slot (slice_get_within code.slots slot s e)) in
    by_call code lists slot index (is_pseudo_call s) (index_in (length code.slots) (target s slot)) listed h

below_or_not : (m n : ℕ) (v : Bool) → nat_lt m n ≡ v → (m < n) ⊎ (n ≤ m)
below_or_not m n true e = inl (ltb-true m n e)
below_or_not m n false e = inr (ltb-false m n e)

no_slot_met : (code : Code) (facts other : Facts) (slot : ℕ) (o : Option bpf_insn) → o ≡ None → AllMet other (ways_from code slot o (slice_get facts slot) facts)
no_slot_met code facts other slot None e = tt
no_slot_met code facts other slot (Some s) e = absurd (cc)

module _ (code : Code) (lists : List (Vec ℕ Global)) (before popped : State) (index : ℕ) (facts_are : before.facts ≡ popped.facts) (list_is : before.pending ≡ popped.pending ++ index ∷ []) (u : IsUnderway code before []) (calls : AreCalls code lists (length code.slots)) where
  itself : (slot : ℕ) → slot ≡ index → (slot < length code.slots) ⊎ (length code.slots ≤ slot) → AllMet popped.facts (ways_at code popped.facts slot) ⊎ Has (resting code lists index) slot
  itself slot e (inl h) = inr (subst (λ (i : ℕ). Has (resting code lists i) slot) e (rests_itself code lists slot h))
  itself slot e (inr h) = inl (no_slot_met code popped.facts popped.facts slot (slice_get code.slots slot) (slice_get_past code.slots slot h))

  from_source : (slot : ℕ) → Has (sources code slot) index → AllMet popped.facts (ways_at code popped.facts slot) ⊎ Has (resting code lists index) slot
  from_source slot (inl e) = itself slot e (below_or_not slot (length code.slots) (nat_lt slot (length code.slots)) refl)
  from_source slot (inr h) = inr (call_rests code lists slot index (slice_get code.slots slot) refl calls h)

  from_list : (slot : ℕ) → HasOne popped.pending (sources code slot) ⊎ Has (sources code slot) index → AllMet popped.facts (ways_at code popped.facts slot) ⊎ (Has (resting code lists index) slot ⊎ HasOne popped.pending (sources code slot))
  from_list slot (inl h) = inr (inr h)
  from_list slot (inr h) = elim (from_source slot h) [ inl m ↦ inl m | inr g ↦ inr (inl g) ]

  from_before : (slot : ℕ) → AllMet before.facts (ways_at code before.facts slot) ⊎ (Has [] slot ⊎ HasOne before.pending (sources code slot)) → AllMet popped.facts (ways_at code popped.facts slot) ⊎ (Has (resting code lists index) slot ⊎ HasOne popped.pending (sources code slot))
  from_before slot (inl m) = inl (subst (λ (fs : Facts). AllMet fs (ways_at code fs slot)) facts_are m)
  from_before slot (inr (inl h)) = absurd h
  from_before slot (inr (inr h)) = from_list slot (one_split popped.pending index (sources code slot) (subst (λ (ns : List ℕ). HasOne ns (sources code slot)) list_is h))

  pub underway_popped : IsUnderway code popped (resting code lists index)
  underway_popped = record {
    size = ap length (sym facts_are) ∙ u.size;
    start = subst (λ (fs : Facts). IsMet (slice_get fs 0) at_start) facts_are u.start;
    roots = subst (λ (fs : Facts). AllMet fs (global_roots code)) facts_are u.roots;
    ways = λ slot. from_before slot (u.ways slot);
    least = λ other c. subst (λ (fs : Facts). IsBelow fs other) facts_are (u.least other c);
  }

pub effort_falls : (before popped later : State) (index : ℕ) → before.facts ≡ popped.facts → before.pending ≡ popped.pending ++ index ∷ [] → effort later ≤ effort popped → effort later < effort before
effort_falls before popped later index facts_are list_is fewer =
    let long = ap length list_is ∙ length-append popped.pending (index ∷ []) in
    let facts_same : 2 * sum_by rank before.facts ≡ 2 * sum_by rank popped.facts = ap (λ (fs : Facts). 2 * sum_by rank fs) facts_are in
    omega (arith, fewer, long, facts_same)

-- The end of the work list.

no_one : {A : Type 0} → (ns : List ℕ) → HasOne [] ns → A
no_one [] h = absurd h
no_one (n ∷ ns) (inl h) = absurd h
no_one (n ∷ ns) (inr h) = no_one ns h

no_more : (code : Code) (state : State) (slot : ℕ) → state.pending ≡ [] → AllMet state.facts (ways_at code state.facts slot) ⊎ (Has [] slot ⊎ HasOne state.pending (sources code slot)) → AllMet state.facts (ways_at code state.facts slot)
no_more code state slot e (inl m) = m
no_more code state slot e (inr (inl h)) = absurd h
no_more code state slot e (inr (inr h)) = no_one (sources code slot) (subst (λ (ns : List ℕ). HasOne ns (sources code slot)) e h)

pub least_found : (code : Code) (state : State) → state.pending ≡ [] → IsUnderway code state [] → IsLeast code state.facts
least_found code state e u = record {
  closed = record { size = u.size; start = u.start; roots = u.roots; ways = λ slot. no_more code state slot e (u.ways slot) };
  least = u.least;
}

-- The start of the work list.

unreached : (n k : ℕ) → (slice_get (no_facts n) k ≡ None) ⊎ (slice_get (no_facts n) k ≡ Some None)
unreached zero k = inl refl
unreached (suc n) zero = inr refl
unreached (suc n) (suc k) = unreached n k

no_ways : (code : Code) (facts other : Facts) (slot : ℕ) (o : Option bpf_insn) (f : Option (Option Known)) → (f ≡ None) ⊎ (f ≡ Some None) → AllMet other (ways_from code slot o f facts)
no_ways code facts other slot None f e = tt
no_ways code facts other slot (Some s) None e = tt
no_ways code facts other slot (Some s) (Some None) e = tt
no_ways code facts other slot (Some s) (Some (Some k)) e = absurd (elim e [ inl h ↦ cc | inr h ↦ cc ])

not_reached : {A : Type 0} → (f : Option (Option Known)) (k : Known) → (f ≡ None) ⊎ (f ≡ Some None) → f ≡ Some (Some k) → A
not_reached f k (inl e) h = absurd (cc)
not_reached f k (inr e) h = absurd (cc)

-- The state of some facts of which the first is reached.
abbrev started : ℕ → State
started len = raised (record { facts = no_facts len; pending = [] }) 0 at_start

first_ways : (code : Code) (n slot : ℕ) → AllMet (started (suc n)).facts (ways_at code (started (suc n)).facts slot) ⊎ (Has [] slot ⊎ HasOne (started (suc n)).pending (sources code slot))
first_ways code n zero = inr (inr (inl (inl refl)))
first_ways code n (suc k) = inl (no_ways code (started (suc n)).facts (started (suc n)).facts (suc k) (slice_get code.slots (suc k)) (slice_get (no_facts n) k) (unreached n k))

first_met : (other : Facts) (f : Option (Option Known)) → slice_get other 0 ≡ f → (length other ≢ 0) → IsMet f at_start → (there : Known) × (slice_get other 0 ≡ Some (Some there)) × IsWithin there at_start
first_met [] None e l m = absurd (l refl)
first_met (o ∷ os) None e l m = absurd (cc)
first_met other (Some None) e l m = absurd m
first_met other (Some (Some there)) e l m = (there, e, m)

first_least : (code : Code) (n : ℕ) (other : Facts) → length code.slots + length code.slots ≡ suc n → IsClosed code other → (slot : ℕ) (known : Known) → slice_get (started (suc n)).facts slot ≡ Some (Some known) → (there : Known) × (slice_get other slot ≡ Some (Some there)) × IsWithin there known
first_least code n other l c zero known e =
    let long : length other ≢ 0 = λ (z : length other ≡ 0). absurd (let s = c.size in omega (arith, s)) in
    let h = first_met other (slice_get other 0) refl long c.start in
    let same : at_start ≡ known = cc in
    (h.0, h.1, subst (λ (k : Known). IsWithin h.0 k) same h.2)
first_least code n other l c (suc k) known e = not_reached _ known (unreached n k) e

-- The first slot is reached and put on the list, and no more.
record IsBegun (code : Code) (state : State) : Type 0 where
  size : length state.facts ≡ length code.slots + length code.slots
  start : IsMet (slice_get state.facts 0) at_start
  ways : (slot : ℕ) → AllMet state.facts (ways_at code state.facts slot) ⊎ (Has [] slot ⊎ HasOne state.pending (sources code slot))
  least : (other : Facts) → IsClosed code other → IsBelow state.facts other

started_begun : (code : Code) (n : ℕ) → length code.slots + length code.slots ≡ suc n → IsBegun code (started (suc n))
started_begun code n l = record {
  size = omega (arith, l, length-replicate {A = Option Known} n None);
  start = within_refl at_start;
  ways = first_ways code n;
  least = λ other c. record { each = first_least code n other l c };
}

begun_from : (code : Code) (n : ℕ) → length code.slots ≡ n → IsBegun code (first_state n)
begun_from code zero l = record {
  size = omega (arith, l);
  start = tt;
  ways = λ slot. inl (no_ways code [] [] slot (slice_get code.slots slot) None (inl refl));
  least = λ other c. record { each = λ slot known e. absurd (cc) };
}
begun_from code (suc n) l =
    let same : suc (n + suc n) ≡ suc n + suc n = omega arith in
    subst (λ (m : ℕ). IsBegun code (started m)) same (started_begun code (n + suc n) (omega (arith, l)))

-- The global functions that needn't be called are reached too.

module _ (code : Code) (first state : State) (g : IsBegun code first) (j : Joins first state (global_roots code)) where
  from_begun : (slot : ℕ) → AllMet first.facts (ways_at code first.facts slot) ⊎ (Has [] slot ⊎ HasOne first.pending (sources code slot)) → AllMet state.facts (ways_at code state.facts slot) ⊎ (Has [] slot ⊎ HasOne state.pending (sources code slot))
  from_begun slot (inl m) = from_met code first state (global_roots code) j [] slot m
  from_begun slot (inr (inl h)) = absurd h
  from_begun slot (inr (inr h)) = from_listed code first state (global_roots code) j [] slot h

  begun_underway : IsUnderway code state []
  begun_underway = record {
    size = j.size ∙ g.size;
    start = met_after_at first.facts state.facts 0 at_start (slice_get first.facts 0) refl (sym j.size) j.weaker g.start;
    roots = j.met;
    ways = λ slot. from_begun slot (g.ways slot);
    least = λ other c. j.least other (c.size ∙ sym g.size) c.roots (g.least other c);
  }

pub underway_first : (code : Code) (first state : State) → first ≡ first_state (length code.slots) → Joins first state (global_roots code) → IsUnderway code state []
underway_first code first state e j = begun_underway code first state (subst (λ (s : State). IsBegun code s) (sym e) (begun_from code (length code.slots) refl)) j

-- The path to one more of some slots.
pub roots_more : (code : Code) (slots : List ℕ) (i d : ℕ) → i < length slots → roots_at code (take i slots) ++ to_slot code (pos (get_or slots i d)) any_entry ≡ roots_at code (take (suc i) slots)
roots_more code [] i d h = absurd (omega arith)
roots_more code (s ∷ ss) zero d h = sym (append-nil (to_slot code (pos s) any_entry))
roots_more code (s ∷ ss) (suc i) d h =
    append_assoc (to_slot code (pos s) any_entry) (roots_at code (take i ss)) (to_slot code (pos (get_or ss i d)) any_entry)
    ∙ ap (λ (ws : List Way). to_slot code (pos s) any_entry ++ ws) (roots_more code ss i d (omega arith))

pub join_root : (code : Code) (first old new : State) (slots : List ℕ) (i d : ℕ) (z : ℤ) (k : Known) → i < length slots → z ≡ pos (get_or slots i d) → k ≡ any_entry → Joins first old (roots_at code (take i slots)) → Joins old new (to_slot code z k) → Joins first new (roots_at code (take (i + 1) slots))
join_root code first old new slots i d z k h e g p q =
    subst (λ (ws : List Way). Joins first new ws) (roots_more code slots i d h ∙ ap (λ (k : ℕ). roots_at code (take k slots)) (sym (add-one i)))
    (joins_append first old new (roots_at code (take i slots)) (to_slot code (pos (get_or slots i d)) any_entry) p (subst (λ (j : Known). Joins old new (to_slot code (pos (get_or slots i d)) j)) g (subst (λ (y : ℤ). Joins old new (to_slot code y k)) e q)))

pub join_no_roots : (code : Code) (s : State) → code.verifier.called_globals ≡ true → Joins s s (global_roots code)
join_no_roots code s e = subst (λ (v : Bool). Joins s s (cond v [] (roots_at code code.globals))) (sym e) (joins_none s)

take_all : (slots : List ℕ) (i : ℕ) → length slots ≤ i → take i slots ≡ slots
take_all [] zero h = refl
take_all [] (suc i) h = refl
take_all (s ∷ ss) zero h = absurd (omega arith)
take_all (s ∷ ss) (suc i) h = ap (λ (xs : List ℕ). s ∷ xs) (take_all ss i (omega arith))

pub all_roots : (code : Code) (first state : State) (slots : List ℕ) (i : ℕ) → length slots ≤ i → Joins first state (roots_at code (take i slots)) → Joins first state (roots_at code slots)
all_roots code first state slots i h j = subst (λ (xs : List ℕ). Joins first state (roots_at code xs)) (take_all slots i h) j

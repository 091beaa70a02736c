-- Facts that are weakened until they meet the paths from a slot.
use Rattle.std.proofs.Common.{◌≡◌, ℕ, ◌+◌, Bool, true, false, cond, List, [], ◌++◌, length, Option, Some, None, refl, sym, ap, ◌∙◌, subst, eq-eqb, ℤ, pos, ◌+ℤ◌}
use Rattle.std.specs.Prelude.{slice_get}
use Rattle.ebpf_items.specs.declared.instruction.bpf_insn.{bpf_insn}
use Rattle.ebpf_items.specs.Instruction.{is_pseudo_call}
use Rattle.plan_values.specs.declared.value.Value.{Value}
use Rattle.plan_values.specs.declared.value.Value.TheVariants as value
use Rattle.plan_values.specs.Effects.{after}
use Rattle.plan_registers.specs.Flow.{Way, after_return, decided, along, allows, back, back_with, branch, distance, ended, ended_with, entered, entered_known, going, inner_ways, is_static_call, leaving, result_value, stops, to_index, to_result, to_slot, ways_of}
use Rattle.plan_values.specs.Knowledge.{Known, any_entry}
use Rattle.plan_values.specs.Programs.{Code, function_of, index_in, is_callback, target}
use Rattle.plan_registers.specs.Reach.{Facts, callee_result, flat_option, ways_from}
use Rattle.plan_registers.specs.Work.{State, Joins}
use Rattle.plan_registers.proofs.Joining.{joins_none, joins_append}

-- A path to a slot that the program may have or not.

pub join_slot_none : (st : State) (code : Code) (z : ℤ) (k : Known) → index_in (length code.slots) z ≡ None → Joins st st (to_slot code z k)
join_slot_none st code z k e = subst (λ (o : Option ℕ). Joins st st (to_index o k)) (sym e) (joins_none st)

-- The index of a slot that is written otherwise.
pub same_index : (o : Option ℕ) (n len : ℕ) (y z : ℤ) → o ≡ index_in n y → n ≡ len → y ≡ z → o ≡ index_in len z
same_index o n len y z e f g = e ∙ (ap (λ (m : ℕ). index_in m y) f ∙ ap (λ (x : ℤ). index_in len x) g)

-- A path that may leave the function.

pub join_leave_none : (st : State) (code : Code) (position : ℕ) (o : Option ℕ) → o ≡ None → Joins st st (leaving code position o)
join_leave_none st code position o e = subst (λ (p : Option ℕ). Joins st st (leaving code position p)) (sym e) (joins_none st)

pub join_within : (st : State) (code : Code) (position n : ℕ) → function_of code position ≡ function_of code n → Joins st st (leaving code position (Some n))
join_within st code position n e =
    subst (λ (v : Bool). Joins st st (cond v [] (to_result code position value.Unknown))) (sym (eq-eqb (function_of code position) (function_of code n) e)) (joins_none st)

pub join_within_at : (st : State) (code : Code) (position n : ℕ) (o : Option ℕ) → o ≡ Some n → function_of code position ≡ function_of code n → Joins st st (leaving code position o)
join_within_at st code position n o e f = subst (λ (p : Option ℕ). Joins st st (leaving code position p)) (sym e) (join_within st code position n f)

pub join_going : (st a b : State) (code : Code) (position : ℕ) (y z : ℤ) (o : Option ℕ) (k : Known) → y ≡ z → o ≡ index_in (length code.slots) z → Joins st a (to_slot code y k) → Joins a b (leaving code position o) → Joins st b (going code position z k)
join_going st a b code position y z o k f e p q =
    joins_append st a b _ _ (subst (λ (x : ℤ). Joins st a (to_slot code x k)) f p) (subst (λ (i : Option ℕ). Joins a b (leaving code position i)) e q)

-- The paths within the function.

pub join_stops : (st : State) (code : Code) (s : bpf_insn) (position : ℕ) (k : Known) (d : Bool) → stops code s position ≡ true → Joins st st (along code s position k d)
join_stops st code s position k d e =
    subst (λ (v : Bool). Joins st st (cond v [] (going code position (pos position +ℤ distance s d) k))) (sym e) (joins_none st)

pub join_along : (st later : State) (code : Code) (s : bpf_insn) (position : ℕ) (k : Known) (d : Bool) (y : ℤ) → stops code s position ≡ false → y ≡ pos position +ℤ distance s d → Joins st later (going code position y k) → Joins st later (along code s position k d)
join_along st later code s position k d y e f j =
    subst (λ (v : Bool). Joins st later (cond v [] (going code position (pos position +ℤ distance s d) k))) (sym e)
    (subst (λ (z : ℤ). Joins st later (going code position z k)) f j)

pub join_branch_not : (st : State) (code : Code) (s : bpf_insn) (position : ℕ) (k : Known) (d : Option Bool) (taken : Bool) → allows d taken ≡ false → Joins st st (branch code s position k d taken)
join_branch_not st code s position k d taken e =
    subst (λ (v : Bool). Joins st st (cond v (along code s position k taken) [])) (sym e) (joins_none st)

pub join_branch : (st later : State) (code : Code) (s : bpf_insn) (position : ℕ) (k : Known) (d : Option Bool) (taken : Bool) → allows d taken ≡ true → Joins st later (along code s position k taken) → Joins st later (branch code s position k d taken)
join_branch st later code s position k d taken e j =
    subst (λ (v : Bool). Joins st later (cond v (along code s position k taken) [])) (sym e) j

pub join_inner : (st a b : State) (code : Code) (s : bpf_insn) (next : Option bpf_insn) (position : ℕ) (known new : Known) (d : Option Bool) → new ≡ after code s next known → d ≡ decided code s known → Joins st a (branch code s position new d true) → Joins a b (branch code s position new d false) → Joins st b (inner_ways code s next position known)
join_inner st a b code s next position known new d e f p q =
    subst (λ (n : Known). Joins st b (branch code s position n (decided code s known) true ++ branch code s position n (decided code s known) false)) e
    (subst (λ (o : Option Bool). Joins st b (branch code s position new o true ++ branch code s position new o false)) f
    (joins_append st a b _ _ p q))

-- The path into a function.

abbrev choice : Code → bpf_insn → ℕ → Known → Bool → Bool → List Way
choice code s position k v w =
    cond v (to_slot code (target s position) (entered_known code (target s position) k)) (cond w (to_slot code (target s position) any_entry) [])

same_slot : (st later : State) (code : Code) (y z : ℤ) (k l : Known) → y ≡ z → k ≡ l → Joins st later (to_slot code y k) → Joins st later (to_slot code z l)
same_slot st later code y z k l e f j =
    subst (λ (n : Known). Joins st later (to_slot code z n)) f (subst (λ (x : ℤ). Joins st later (to_slot code x k)) e j)

pub join_call : (st later : State) (code : Code) (s : bpf_insn) (position : ℕ) (k known : Known) (z : ℤ) → is_pseudo_call s ≡ true → z ≡ target s position → known ≡ entered_known code (target s position) k → Joins st later (to_slot code z known) → Joins st later (entered code s position k)
join_call st later code s position k known z e f g j =
    subst (λ (v : Bool). Joins st later (choice code s position k v (is_callback s))) (sym e)
    (same_slot st later code z _ known _ f g j)

pub join_callback : (st later : State) (code : Code) (s : bpf_insn) (position : ℕ) (k known : Known) (z : ℤ) → is_pseudo_call s ≡ false → is_callback s ≡ true → z ≡ target s position → known ≡ any_entry → Joins st later (to_slot code z known) → Joins st later (entered code s position k)
join_callback st later code s position k known z e h f g j =
    subst (λ (v : Bool). Joins st later (choice code s position k v (is_callback s))) (sym e)
    (subst (λ (w : Bool). Joins st later (choice code s position k false w)) (sym h) (same_slot st later code z _ known any_entry f g j))

pub join_no_entry : (st : State) (code : Code) (s : bpf_insn) (position : ℕ) (k : Known) → is_pseudo_call s ≡ false → is_callback s ≡ false → Joins st st (entered code s position k)
join_no_entry st code s position k e h =
    subst (λ (v : Bool). Joins st st (choice code s position k v (is_callback s))) (sym e)
    (subst (λ (w : Bool). Joins st st (choice code s position k false w)) (sym h) (joins_none st))

-- The path to a result, and back from a call.

pub join_no_end : (st : State) (code : Code) (s : bpf_insn) (position : ℕ) (k : Known) → result_value s k ≡ None → Joins st st (ended code s position k)
join_no_end st code s position k e = subst (λ (o : Option Value). Joins st st (ended_with code position o)) (sym e) (joins_none st)

pub join_end : (st later : State) (code : Code) (s : bpf_insn) (position : ℕ) (k : Known) (v : Value) → result_value s k ≡ Some v → Joins st later (to_result code position v) → Joins st later (ended code s position k)
join_end st later code s position k v e j = subst (λ (o : Option Value). Joins st later (ended_with code position o)) (sym e) j

pub join_back_with : (st later : State) (code : Code) (position : ℕ) (k result new : Known) (o : Option Known) (z : ℤ) → o ≡ Some result → new ≡ after_return k result → z ≡ pos position +ℤ pos 1 → Joins st later (going code position z new) → Joins st later (back_with code position k o)
join_back_with st later code position k result new o z e f g j =
    subst (λ (p : Option Known). Joins st later (back_with code position k p)) (sym e)
    (subst (λ (n : Known). Joins st later (going code position (pos position +ℤ pos 1) n)) f
    (subst (λ (y : ℤ). Joins st later (going code position y new)) g j))

pub join_no_result : (st : State) (code : Code) (position : ℕ) (k : Known) (o : Option Known) → o ≡ None → Joins st st (back_with code position k o)
join_no_result st code position k o e = subst (λ (p : Option Known). Joins st st (back_with code position k p)) (sym e) (joins_none st)

pub join_no_back : (st : State) (code : Code) (s : bpf_insn) (position : ℕ) (k : Known) (o : Option Known) → is_static_call code s position ≡ false → Joins st st (back code s position k o)
join_no_back st code s position k o e = subst (λ (v : Bool). Joins st st (cond v (back_with code position k o) [])) (sym e) (joins_none st)

pub join_back : (st later : State) (code : Code) (s : bpf_insn) (position : ℕ) (k : Known) (o : Option Known) → is_static_call code s position ≡ true → Joins st later (back_with code position k o) → Joins st later (back code s position k o)
join_back st later code s position k o e j = subst (λ (v : Bool). Joins st later (cond v (back_with code position k o) [])) (sym e) j

-- All paths from a slot.

pub join_ways : (st a b c d : State) (code : Code) (s : bpf_insn) (next : Option bpf_insn) (position : ℕ) (k : Known) (o : Option Known) → Joins st a (inner_ways code s next position k) → Joins a b (entered code s position k) → Joins b c (ended code s position k) → Joins c d (back code s position k o) → Joins st d (ways_of code s next position k o)
join_ways st a b c d code s next position k o p q r t =
    joins_append st a d _ _ p (joins_append a b d _ _ q (joins_append b c d _ _ r t))

no_slot : (code : Code) (n : ℕ) (o : Option bpf_insn) (f : Option (Option Known)) (facts : Facts) → o ≡ None → ways_from code n o f facts ≡ []
no_slot code n o f facts e = ap (λ (o : Option bpf_insn). ways_from code n o f facts) e

no_fact : (code : Code) (n : ℕ) (o : Option bpf_insn) (f : Option (Option Known)) (facts : Facts) → flat_option f ≡ None → ways_from code n o f facts ≡ []
no_fact code n None f facts e = refl
no_fact code n (Some s) None facts e = refl
no_fact code n (Some s) (Some None) facts e = refl
no_fact code n (Some s) (Some (Some k)) facts e = absurd (cc)

flat_some : (f : Option (Option Known)) (k : Known) → flat_option f ≡ Some k → f ≡ Some (Some k)
flat_some None k e = absurd (cc)
flat_some (Some o) k e = ap (λ (x : Option Known). Some x) e

pub join_no_slot : (st : State) (code : Code) (n : ℕ) (o : Option bpf_insn) (f : Option (Option Known)) (facts : Facts) → o ≡ None → Joins st st (ways_from code n o f facts)
join_no_slot st code n o f facts e = subst (λ (ws : List Way). Joins st st ws) (sym (no_slot code n o f facts e)) (joins_none st)

pub join_no_fact : (st : State) (code : Code) (n : ℕ) (o : Option bpf_insn) (f : Option (Option Known)) (facts : Facts) → flat_option f ≡ None → Joins st st (ways_from code n o f facts)
join_no_fact st code n o f facts e = subst (λ (ws : List Way). Joins st st ws) (sym (no_fact code n o f facts e)) (joins_none st)

pub join_from : (st later : State) (code : Code) (n : ℕ) (s : bpf_insn) (next : Option bpf_insn) (k : Known) (r : Option Known) (o : Option bpf_insn) (f : Option (Option Known)) (facts : Facts) → o ≡ Some s → flat_option f ≡ Some k → next ≡ slice_get code.slots (n + 1) → r ≡ callee_result code facts s n → Joins st later (ways_of code s next n k r) → Joins st later (ways_from code n o f facts)
join_from st later code n s next k r o f facts e g h q j =
    let made : Joins st later (ways_from code n (Some s) (Some (Some k)) facts) =
    subst (λ (p : Option Known). Joins st later (ways_of code s (slice_get code.slots (n + 1)) n k p)) q (subst (λ (x : Option bpf_insn). Joins st later (ways_of code s x n k r)) h j) in
    subst (λ (x : Option bpf_insn). Joins st later (ways_from code n x f facts)) (sym e)
    (subst (λ (x : Option (Option Known)). Joins st later (ways_from code n (Some s) x facts)) (sym (flat_some f k g)) made)

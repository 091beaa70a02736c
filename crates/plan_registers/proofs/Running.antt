-- Each state of a run is at a slot that all closed facts reach.
use Rattle.std.proofs.Common.{◌≡◌, ◌≢◌, ◌<◌, ◌⊎◌, ℕ, zero, suc, ◌+◌, Bool, true, false, ◌&&◌, cond, ◌%◌, List, [], ◌∷◌, length, take, drop, Option, Some, None, refl, sym, ap, ◌∙◌, subst, inl, inr, arith, eqb, eqb-true, nat_lt, ℤ, pos, negsuc, ◌+ℤ◌, map}
use Rattle.std.proofs.lemmas.Int.{ints}
use Rattle.std.proofs.lemmas.Option.{slice_get_within}
use Rattle.std.specs.Prelude.{◌||◌, not, slice_get, IsSome}
use Rattle.ebpf_items.specs.declared.instruction.bpf_insn.{bpf_insn}
use Rattle.ebpf_items.specs.Instruction.{dst_reg_of, src_reg_of, is_pseudo_call}
use Rattle.plan_values.specs.declared.effects.Kind.{Kind}
use Rattle.plan_values.specs.declared.effects.Kind.TheVariants as kind
use Rattle.plan_values.specs.declared.value.Value.{Value}
use Rattle.plan_values.specs.declared.value.Value.TheVariants as value
use Rattle.plan_values.specs.Values.{plain_if}
use Rattle.plan_values.specs.Knowledge.{Known, at_start, any_entry, keeps_frame, nothing, IsWithin, value_in}
use Rattle.plan_values.specs.Programs.{Code, function_of, index_in, is_callback, target}
use Rattle.plan_values.specs.Effects.{after, after_kind, after_result, kind_of, call_result, with_frame}
use Rattle.plan_registers.specs.Flow.{Way, allows, back_with, branch, decided, distance, ended_with, entered_known, going, inner_ways, is_global, is_static_call, leaving, passed, result_at, result_value, returned, stops, to_index, to_result, to_slot, ways_of}
use Rattle.plan_registers.specs.Machine.{Word, ContextAddress, Waiting, State, Runs, Calls, IsCalledBack, Returns, Steps, word_at, AfterCall, Entered, outside_word}
use Rattle.plan_registers.specs.Reach.{Facts, IsMet, AllMet, callee_result, context_offset, offset_at, result_in, ways_from, IsClosed, flat_option}
use Rattle.plan_registers.specs.Visits.{IsRun, IsReachedAt, LoadsAsSaid, AllReached, VisitsReached}
use Rattle.plan_registers.proofs.Calling.{function_inside}
use Rattle.plan_registers.proofs.Describing.{AreDescribed, Describes, all_weaker, allowed_too, described_at, effect_described, effect_size, end_described, operand_described, passed_described, result_described, values_decided, weaker, any_entry_described, frame_after_call, start_described}
use Rattle.plan_registers.proofs.Flows.{all_front, all_back, back_met, ended_met, entry_met, inner_met}
use Rattle.plan_values.proofs.Indexes.{index_inside}
use Rattle.plan_values.proofs.Within.{and_left, and_right}

-- A slot is one of the function of another, or the result of that function is unknown.
abbrev IsIn : Code → Facts → Option ℕ → Option ℕ → Type 0
IsIn code facts None None = Unit {0}
IsIn code facts None (Some callee) = Unit {0}
IsIn code facts (Some slot) None = ⊥
IsIn code facts (Some slot) (Some callee) =
    (function_of code slot ≡ function_of code callee) ⊎ IsMet (slice_get facts (result_at code callee)) nothing

abbrev RunsIn : Code → Facts → Option ℕ → List Waiting → Type 0
RunsIn code facts slot [] = Unit {0}
RunsIn code facts slot (w ∷ ws) = IsIn code facts slot (index_in (length code.slots) w.callee)

-- The facts describe a function that waits at a call.
record IsWaiting (code : Code) (facts : Facts) (w : Waiting) (others : List Waiting) : Type 0 where
  s : bpf_insn
  here : slice_get code.slots w.slot ≡ Some s
  call : is_pseudo_call s ≡ true
  callee : w.callee ≡ target s w.slot
  known : Known
  fact : slice_get facts w.slot ≡ Some (Some known)
  size : length w.registers ≡ 32
  described : AreDescribed known w.registers
  inside : RunsIn code facts (Some w.slot) others

abbrev AreWaiting : Code → Facts → List Waiting → Type 0
AreWaiting code facts [] = Unit {0}
AreWaiting code facts (w ∷ ws) = IsWaiting code facts w ws × AreWaiting code facts ws

-- The facts describe a state, or its slot is outside the program.
record IsHere (code : Code) (facts : Facts) (a : State) : Type 0 where
  known : Known
  size : length a.registers ≡ 32
  met : AllMet facts (to_slot code a.slot known)
  described : AreDescribed known a.registers
  inside : RunsIn code facts (index_in (length code.slots) a.slot) a.waiting
  waiting : AreWaiting code facts a.waiting

-- A path within the function, or out of it.

same_function : (code : Code) (facts : Facts) (n z c : ℕ) (v : Bool) → eqb (function_of code n) (function_of code z) ≡ v → AllMet facts (cond v [] (to_result code n value.Unknown)) → function_of code n ≡ function_of code c → IsIn code facts (Some z) (Some c)
same_function code facts n z c true q m e = inl (sym (eqb-true (function_of code n) (function_of code z) q) ∙ e)
same_function code facts n z c false q m e = inr (subst (λ (f : ℕ). IsMet (slice_get facts (length code.slots + f)) nothing) e m.0)

in_next : (code : Code) (facts : Facts) (o : Option ℕ) (n : ℕ) (c : Option ℕ) → AllMet facts (leaving code n o) → IsIn code facts (Some n) c → IsIn code facts o c
in_next code facts None n None m h = tt
in_next code facts None n (Some c) m h = tt
in_next code facts (Some z) n None m h = absurd h
in_next code facts (Some z) n (Some c) m (inl e) = same_function code facts n z c (eqb (function_of code n) (function_of code z)) refl m e
in_next code facts (Some z) n (Some c) m (inr h) = inr h

runs_next : (code : Code) (facts : Facts) (o : Option ℕ) (n : ℕ) (ws : List Waiting) → AllMet facts (leaving code n o) → RunsIn code facts (Some n) ws → RunsIn code facts o ws
runs_next code facts o n [] m h = tt
runs_next code facts o n (w ∷ ws) m h = in_next code facts o n (index_in (length code.slots) w.callee) m h

in_self : (code : Code) (facts : Facts) (o : Option ℕ) → IsIn code facts o o
in_self code facts None = tt
in_self code facts (Some z) = inl refl

-- A state to which such a path leads is described.
gone : (code : Code) (facts : Facts) (b : State) (n : ℕ) (z : ℤ) (k : Known) → b.slot ≡ z → length b.registers ≡ 32 → AreDescribed k b.registers → AllMet facts (going code n z k) → RunsIn code facts (Some n) b.waiting → AreWaiting code facts b.waiting → IsHere code facts b
gone code facts b n z k e l d m h w = record {
  known = k;
  size = l;
  met = subst (λ (y : ℤ). AllMet facts (to_slot code y k)) (sym e) (all_front facts (to_slot code z k) (leaving code n (index_in (length code.slots) z)) m);
  described = d;
  inside = subst (λ (y : ℤ). RunsIn code facts (index_in (length code.slots) y) b.waiting) (sym e) (runs_next code facts (index_in (length code.slots) z) n b.waiting (all_back facts (to_slot code z k) (leaving code n (index_in (length code.slots) z)) m) h);
  waiting = w;
}

-- Paths that are met.

if_not : (facts : Facts) (v : Bool) (ws : List Way) → v ≡ false → AllMet facts (cond v [] ws) → AllMet facts ws
if_not facts true ws e h = absurd (cc)
if_not facts false ws e h = h

if_so : (facts : Facts) (v : Bool) (ws xs : List Way) → v ≡ true → AllMet facts (cond v ws xs) → AllMet facts ws
if_so facts true ws xs e h = h
if_so facts false ws xs e h = absurd (cc)

if_second : (facts : Facts) (v w : Bool) (us ws xs : List Way) → v ≡ false → w ≡ true → AllMet facts (cond v us (cond w ws xs)) → AllMet facts ws
if_second facts true w us ws xs e f h = absurd (cc)
if_second facts false w us ws xs e f h = if_so facts w ws xs f h

taken_met : (facts : Facts) (code : Code) (s : bpf_insn) (next : Option bpf_insn) (n : ℕ) (k : Known) (d : Bool) → AllMet facts (inner_ways code s next n k) → AllMet facts (branch code s n (after code s next k) (decided code s k) d)
taken_met facts code s next n k true h =
    all_front facts (branch code s n (after code s next k) (decided code s k) true) (branch code s n (after code s next k) (decided code s k) false) h
taken_met facts code s next n k false h =
    all_back facts (branch code s n (after code s next k) (decided code s k) true) (branch code s n (after code s next k) (decided code s k) false) h

inner_going : (facts : Facts) (code : Code) (s : bpf_insn) (next : Option bpf_insn) (n : ℕ) (k : Known) (d : Bool) → allows (decided code s k) d ≡ true → stops code s n ≡ false → AllMet facts (inner_ways code s next n k) → AllMet facts (going code n (pos n +ℤ distance s d) (after code s next k))
inner_going facts code s next n k d e f h =
    if_not facts (stops code s n) _ f (if_so facts (allows (decided code s k) d) _ [] e (taken_met facts code s next n k d h))

stops_not : (v w u : Bool) → v ≢ true → w ≡ false → (v || (w && u)) ≡ false
stops_not true w u d e = absurd (d refl)
stops_not false true u d e = absurd (cc)
stops_not false false u d e = refl

not_code : (a b : ℕ) → a ≢ b → eqb a b ≢ true
not_code a b d = λ (e : eqb a b ≡ true). d (eqb-true a b e)

-- A call.

call_code : (s : bpf_insn) → is_pseudo_call s ≡ true → s.code ≡ 133
call_code s f = eqb-true s.code 133 (and_left _ _ (and_left _ _ (and_left _ _ f)))

call_kind : kind_of 133 ≡ kind.Call
unfolding kind_of
call_kind = refl

call_source : (s : bpf_insn) → is_pseudo_call s ≡ true → src_reg_of s ≡ 1
call_source s f = eqb-true (src_reg_of s) 1 (and_right (eqb s.code 133) (eqb (src_reg_of s) 1) (and_left _ _ (and_left _ _ f)))

call_unknown : (s : bpf_insn) (k : Known) → src_reg_of s ≡ 1 → call_result s k ≡ value.Unknown
call_unknown s k e = ap (λ (n : ℕ). plain_if (eqb n 0 || (eqb n 2 && keeps_frame k))) e

call_after : (code : Code) (s : bpf_insn) (next : Option bpf_insn) (k : Known) → s.code ≡ 133 → src_reg_of s ≡ 1 → after code s next k ≡ after_result value.Unknown (with_frame k)
call_after code s next k e f =
    ap (λ (c : Kind). after_kind code s next k c) (ap (λ (n : ℕ). kind_of n) e ∙ call_kind)
    ∙ ap (λ (v : Value). after_result v (with_frame k)) (call_unknown s k f)

call_distance : (s : bpf_insn) (d : Bool) → s.code ≡ 133 → distance s d ≡ pos 1
call_distance s d e =
    ap (λ (n : ℕ). cond (eqb n 24) (pos 2) (cond (eqb n 5) (pos 1 +ℤ s.off) (cond (eqb n 6) (pos 1 +ℤ s.imm) (cond (cond (eqb n 133) false ((eqb (n % 8) 5) || (eqb (n % 8) 6)) && d) (pos 1 +ℤ s.off) (pos 1))))) e

any_allowed : (o : Option Bool) → (d : Bool) × (allows o d ≡ true)
any_allowed None = (true, refl)
any_allowed (Some true) = (true, refl)
any_allowed (Some false) = (false, refl)

exit_not : (s : bpf_insn) → s.code ≡ 133 → eqb s.code 149 ≡ false
exit_not s e = ap (λ (n : ℕ). eqb n 149) e

-- Where a call is done, a path back from it is met, with its result.
back_from : (facts : Facts) (code : Code) (s : bpf_insn) (next : Option bpf_insn) (n : ℕ) (k there : Known) (o : Option Known) (r : Word) (g : Bool) → is_global code (target s n) ≡ g → is_pseudo_call s ≡ true → o ≡ Some there → Describes (value_in there 0) r → AllMet facts (ways_of code s next n k o) → (v : Value) × Describes v r × AllMet facts (going code n (pos n +ℤ pos 1) (after_result v (with_frame k)))
back_from facts code s next n k there o r true g c e d h =
    let t = any_allowed (decided code s k) in
    let code_is : s.code ≡ 133 = call_code s c in
    let goes : stops code s n ≡ false = ap (λ (v : Bool). v || (is_pseudo_call s && not (is_global code (target s n)))) (exit_not s code_is) ∙ (ap (λ (v : Bool). is_pseudo_call s && not v) g ∙ ap (λ (v : Bool). v && false) c) in
    let m = inner_going facts code s next n k t.0 t.1 goes (inner_met facts code s next n k o h) in
    (value.Unknown, tt, subst (λ (z : ℤ). AllMet facts (going code n (pos n +ℤ z) (after_result value.Unknown (with_frame k)))) (call_distance s t.0 code_is) (subst (λ (j : Known). AllMet facts (going code n (pos n +ℤ distance s t.0) j)) (call_after code s next k code_is (call_source s c)) m))
back_from facts code s next n k there o r false g c e d h =
    let static : is_static_call code s n ≡ true = ap (λ (v : Bool). is_pseudo_call s && not v) g ∙ ap (λ (v : Bool). v && true) c in
    let m = if_so facts (is_static_call code s n) (back_with code n k o) [] static (back_met facts code s next n k o h) in
    (value_in there 0, d, subst (λ (p : Option Known). AllMet facts (back_with code n k p)) e m)

-- The result of a function.

inside : {A : Type 0} → (xs : List A) (n : ℕ) → n < length xs → slice_get xs n ≢ None
inside [] n h = absurd (omega arith)
inside (x ∷ xs) zero h = λ e. absurd (cc)
inside (x ∷ xs) (suc n) h = inside xs n (omega arith)

first_weaker : (there : Known) (v : Value) (r : Word) → IsWithin there (returned v) → Describes v r → Describes (value_in there 0) r
first_weaker [] v r m d = absurd m
first_weaker (x ∷ xs) v r m d = weaker x v r m.0 d

-- What is known of a result that is met says no more than what was met.
there_known : (f : Option (Option Known)) (v : Value) (r : Word) → f ≢ None → IsMet f (returned v) → Describes v r → (there : Known) × (flat_option f ≡ Some there) × Describes (value_in there 0) r
there_known None v r n m d = absurd (n refl)
there_known (Some None) v r n m d = absurd m
there_known (Some (Some there)) v r n m d = (there, refl, first_weaker there v r m d)

-- What is met at the result of the function that was called.
result_met : (code : Code) (facts : Facts) (n c : ℕ) (v : Value) (r : Word) → IsIn code facts (Some n) (Some c) → IsMet (slice_get facts (result_at code n)) (returned v) → Describes v r → (u : Value) × Describes u r × IsMet (slice_get facts (result_at code c)) (returned u)
result_met code facts n c v r (inl e) m d =
    (v, d, subst (λ (f : ℕ). IsMet (slice_get facts (length code.slots + f)) (returned v)) e m)
result_met code facts n c v r (inr h) m d = (value.Unknown, tt, h)

slot_index : (code : Code) (n : ℕ) (s : bpf_insn) → slice_get code.slots n ≡ Some s → index_in (length code.slots) (pos n) ≡ Some n
slot_index code n s e =
    let within : n < length code.slots = slice_get_within code.slots n s e in
    sym (index_inside (length code.slots) n (pos n) refl (omega (arith, ints, within)))

-- A step from a slot that is reached.

module _ (code : Code) (facts : Facts) (c : IsClosed code facts) (a b : State) (n : ℕ) (s : bpf_insn) (k : Known) (here : slice_get code.slots n ≡ Some s) (fact : slice_get facts n ≡ Some (Some k)) (size : length a.registers ≡ 32) (described : AreDescribed k a.registers) (within : RunsIn code facts (Some n) a.waiting) (waiting : AreWaiting code facts a.waiting) where
  ways_met : AllMet facts (ways_of code s (slice_get code.slots (n + 1)) n k (callee_result code facts s n))
  ways_met =
      let all : AllMet facts (ways_from code n (slice_get code.slots n) (slice_get facts n) facts) = c.ways n in
      subst (λ (f : Option (Option Known)). AllMet facts (ways_from code n (Some s) f facts)) fact (subst (λ (o : Option bpf_insn). AllMet facts (ways_from code n o (slice_get facts n) facts)) here all)

  on_runs : Runs code n s a b → IsHere code facts b
  on_runs r =
      let allowed = allowed_too _ _ r.taken (values_decided code s.code _ _ _ _ (described_at k a.registers (dst_reg_of s) described) (operand_described s k a.registers described)) r.allowed in
      let goes : stops code s n ≡ false = stops_not (eqb s.code 149) (is_pseudo_call s) (not (is_global code (target s n))) (not_code s.code 149 r.stays) r.no_call in
      gone code facts b n (pos n +ℤ distance s r.taken) (after code s (slice_get code.slots (n + 1)) k) r.to
      (effect_size code s (slice_get code.slots (n + 1)) a.registers b.registers (kind_of s.code) r.effect ∙ size)
      (effect_described code s (slice_get code.slots (n + 1)) k a.registers b.registers (kind_of s.code) described size r.effect)
      (inner_going facts code s (slice_get code.slots (n + 1)) n k r.taken allowed goes (inner_met facts code s (slice_get code.slots (n + 1)) n k _ ways_met))
      (subst (λ (ws : List Waiting). RunsIn code facts (Some n) ws) (sym r.waiting) within)
      (subst (λ (ws : List Waiting). AreWaiting code facts ws) (sym r.waiting) waiting)

  arguments : (v : Bool) (us : List Word) → Entered us → take 5 (drop 1 us) ≡ map outside_word (take 5 (drop 1 a.registers)) → AreDescribed (cond v any_entry (passed k)) us
  arguments true us l e = any_entry_described us l
  arguments false us l e = passed_described k a.registers us described l e

  on_calls : Calls n s a b → IsHere code facts b
  on_calls g =
      let w : Waiting = record { slot = n; callee = target s n; registers = a.registers } in
      record {
        known = entered_known code (target s n) k;
        size = g.entered.size;
        met = subst (λ (z : ℤ). AllMet facts (to_slot code z (entered_known code (target s n) k))) (sym g.to)
            (if_so facts (is_pseudo_call s) _ _ g.call (entry_met facts code s (slice_get code.slots (n + 1)) n k _ ways_met));
        described = arguments (is_global code (target s n)) b.registers g.entered g.arguments;
        inside = subst (λ (ws : List Waiting). RunsIn code facts (index_in (length code.slots) b.slot) ws) (sym g.waiting)
            (subst (λ (z : ℤ). IsIn code facts (index_in (length code.slots) z) (index_in (length code.slots) (target s n))) (sym g.to) (in_self code facts (index_in (length code.slots) (target s n))));
        waiting = subst (λ (ws : List Waiting). AreWaiting code facts ws) (sym g.waiting)
            (record { s = s; here = here; call = g.call; callee = refl; known = k; fact = fact; size = size; described = described; inside = within }, waiting);
      }

  no_call : is_callback s ≡ true → (v : Bool) → is_pseudo_call s ≡ v → v ≡ false
  no_call e true f =
      let load : s.code ≡ 24 = eqb-true s.code 24 (and_left _ _ e) in
      let call : s.code ≡ 133 = call_code s f in
      absurd (omega (arith, load, call))
  no_call e false f = refl

  on_called_back : IsCalledBack n s a b → IsHere code facts b
  on_called_back g = record {
    known = any_entry;
    size = g.entered.size;
    met = subst (λ (z : ℤ). AllMet facts (to_slot code z any_entry)) (sym g.to)
        (if_second facts (is_pseudo_call s) (is_callback s) _ _ _ (no_call g.load (is_pseudo_call s) refl) g.load (entry_met facts code s (slice_get code.slots (n + 1)) n k _ ways_met));
    described = any_entry_described b.registers g.entered;
    inside = subst (λ (ws : List Waiting). RunsIn code facts (index_in (length code.slots) b.slot) ws) (sym g.waiting) tt;
    waiting = subst (λ (ws : List Waiting). AreWaiting code facts ws) (sym g.waiting) tt;
  }

  result_is_met : (r : Word) (v : Value) → result_value s k ≡ Some v → IsMet (slice_get facts (result_at code n)) (returned v)
  result_is_met r v e =
      let m : AllMet facts (ended_with code n (Some v)) = subst (λ (o : Option Value). AllMet facts (ended_with code n o)) e (ended_met facts code s (slice_get code.slots (n + 1)) n k _ ways_met) in
      m.0

-- A function waits for a result that is met.
module _ (code : Code) (facts : Facts) (c : IsClosed code facts) (b : State) (w : Waiting) (others : List Waiting) (h : IsWaiting code facts w others) (r : Word) where
  call_met : AllMet facts (ways_of code h.s (slice_get code.slots (w.slot + 1)) w.slot h.known (callee_result code facts h.s w.slot))
  call_met =
      let all : AllMet facts (ways_from code w.slot (slice_get code.slots w.slot) (slice_get facts w.slot) facts) = c.ways w.slot in
      subst (λ (f : Option (Option Known)). AllMet facts (ways_from code w.slot (Some h.s) f facts)) h.fact (subst (λ (o : Option bpf_insn). AllMet facts (ways_from code w.slot o (slice_get facts w.slot) facts)) h.here all)

  long : 0 < length code.slots
  long = let within : w.slot < length code.slots = slice_get_within code.slots w.slot h.s h.here in omega (arith, within)

  goes_back : (t : ℕ) (u : Value) → index_in (length code.slots) w.callee ≡ Some t → Describes u r → IsMet (slice_get facts (result_at code t)) (returned u) → b.slot ≡ pos w.slot +ℤ pos 1 → word_at b.registers 0 ≡ r → AfterCall w.registers b.registers → b.waiting ≡ others → AreWaiting code facts others → IsHere code facts b
  goes_back t u e d m to given stays waiting_is waiting =
      let less : function_of code t < length code.slots = function_inside code t long in
      let f = there_known (slice_get facts (result_at code t)) u r (inside facts (result_at code t) (omega (arith, less, c.size))) m d in
      let callee_is : index_in (length code.slots) (target h.s w.slot) ≡ Some t = ap (λ (z : ℤ). index_in (length code.slots) z) (sym h.callee) ∙ e in
      let result_is : callee_result code facts h.s w.slot ≡ Some f.0 = ap (λ (o : Option ℕ). result_in code facts o) callee_is ∙ f.1 in
      let p = back_from facts code h.s (slice_get code.slots (w.slot + 1)) w.slot h.known f.0 (callee_result code facts h.s w.slot) r (is_global code (target h.s w.slot)) refl h.call result_is f.2 call_met in
      gone code facts b w.slot (pos w.slot +ℤ pos 1) (after_result p.0 (with_frame h.known)) to
      (stays.size ∙ h.size)
      (result_described p.0 (with_frame h.known) stays.written b.registers (frame_after_call h.known w.registers b.registers h.described stays) stays.saved stays.others (stays.size ∙ h.size) (subst (λ (x : Word). Describes p.0 x) (sym given) p.1))
      p.2
      (subst (λ (ws : List Waiting). RunsIn code facts (Some w.slot) ws) (sym waiting_is) h.inside)
      (subst (λ (ws : List Waiting). AreWaiting code facts ws) (sym waiting_is) waiting)

returns_at : (code : Code) (facts : Facts) (c : IsClosed code facts) (s : bpf_insn) (k : Known) (a b : State) (n : ℕ) (g : Returns s a b) (v : Value) (o : Option ℕ) → index_in (length code.slots) g.call.callee ≡ o → IsIn code facts (Some n) o → AreWaiting code facts (g.call ∷ g.others) → Describes v g.result → IsMet (slice_get facts (result_at code n)) (returned v) → IsHere code facts b
returns_at code facts c s k a b n g v None e h w d m = absurd h
returns_at code facts c s k a b n g v (Some t) e h w d m =
    let u = result_met code facts n t v g.result h m d in
    goes_back code facts c b g.call g.others w.0 g.result t u.0 e u.1 u.2 g.to g.given g.stays g.waiting w.1

on_returns : (code : Code) (facts : Facts) (c : IsClosed code facts) (a b : State) (n : ℕ) (s : bpf_insn) (k : Known) → slice_get code.slots n ≡ Some s → slice_get facts n ≡ Some (Some k) → length a.registers ≡ 32 → AreDescribed k a.registers → RunsIn code facts (Some n) a.waiting → AreWaiting code facts a.waiting → Returns s a b → IsHere code facts b
on_returns code facts c a b n s k here fact size described within waiting g =
    let e = end_described s k a.registers g.result described g.ends in
    let m = result_is_met code facts c a b n s k here fact size described within waiting g.result e.0 e.1 in
    let inside_is : RunsIn code facts (Some n) (g.call ∷ g.others) = subst (λ (ws : List Waiting). RunsIn code facts (Some n) ws) g.called within in
    let waiting_is : AreWaiting code facts (g.call ∷ g.others) = subst (λ (ws : List Waiting). AreWaiting code facts ws) g.called waiting in
    returns_at code facts c s k a b n g e.0 (index_in (length code.slots) g.call.callee) refl inside_is waiting_is e.2 m

-- A step.

at_fact : (code : Code) (facts : Facts) (a b : State) (n : ℕ) (s : bpf_insn) (known : Known) (f : Option (Option Known)) → IsClosed code facts → slice_get code.slots n ≡ Some s → slice_get facts n ≡ f → IsMet f known → length a.registers ≡ 32 → AreDescribed known a.registers → RunsIn code facts (Some n) a.waiting → AreWaiting code facts a.waiting → Runs code n s a b ⊎ (Calls n s a b ⊎ (IsCalledBack n s a b ⊎ Returns s a b)) → IsHere code facts b
at_fact code facts a b n s known None c e g met l d i w goes =
    let within : n < length code.slots = slice_get_within code.slots n s e in
    absurd (inside facts n (omega (arith, within, c.size)) g)
at_fact code facts a b n s known (Some None) c e g met l d i w goes = absurd met
at_fact code facts a b n s known (Some (Some k)) c e g met l d i w goes =
    let described : AreDescribed k a.registers = all_weaker k known a.registers met d in
    elim goes [
      | inl r ↦ on_runs code facts c a b n s k e g l described i w r
      | inr o ↦ elim o [
        | inl r ↦ on_calls code facts c a b n s k e g l described i w r
        | inr p ↦ elim p [
          | inl r ↦ on_called_back code facts c a b n s k e g l described i w r
          | inr r ↦ on_returns code facts c a b n s k e g l described i w r
        ]
      ]
    ]

met_here : (facts : Facts) (o : Option ℕ) (n : ℕ) (k : Known) → o ≡ Some n → AllMet facts (to_index o k) → IsMet (slice_get facts n) k
met_here facts None n k e h = absurd (cc)
met_here facts (Some m) n k e h =
    let same : m ≡ n = cc in
    subst (λ (i : ℕ). IsMet (slice_get facts i) k) same h.0

step : (code : Code) (facts : Facts) (a b : State) → IsClosed code facts → IsHere code facts a → Steps code a b → IsHere code facts b
step code facts a b c h t =
    let index : index_in (length code.slots) a.slot ≡ Some t.n = ap (λ (z : ℤ). index_in (length code.slots) z) t.at ∙ slot_index code t.n t.s t.here in
    at_fact code facts a b t.n t.s h.known (slice_get facts t.n) c t.here refl (met_here facts (index_in (length code.slots) a.slot) t.n h.known index h.met) h.size h.described
    (subst (λ (o : Option ℕ). RunsIn code facts o a.waiting) index h.inside) h.waiting t.goes

-- A run.

record IsEverywhere (code : Code) (a : State) : Type 0 where
  each : (facts : Facts) → IsClosed code facts → IsHere code facts a

is_reached : (facts : Facts) (n : ℕ) (known : Known) (f : Option (Option Known)) → slice_get facts n ≡ f → IsMet f known → (f ≢ None) → IsSome (flat_option f)
is_reached facts n known None e m d = absurd (d refl)
is_reached facts n known (Some None) e m d = absurd m
is_reached facts n known (Some (Some k)) e m d = refl

reached_at : (code : Code) (z : ℤ) (a : State) → a.slot ≡ z → IsEverywhere code a → IsReachedAt code z
reached_at code (pos n) a e h = λ within. record {
  inside = within;
  each = λ facts c.
      let here = h.each facts c in
      let index : index_in (length code.slots) a.slot ≡ Some n = ap (λ (z : ℤ). index_in (length code.slots) z) e ∙ sym (index_inside (length code.slots) n (pos n) refl (omega (arith, ints, within))) in
      is_reached facts n here.known (slice_get facts n) refl (met_here facts (index_in (length code.slots) a.slot) n here.known index here.met) (inside facts n (omega (arith, within, c.size)));
}
reached_at code (negsuc n) a e h = tt

-- A load from the context.

context_word : (v : Value) (w : Word) (offset : ℕ) → context_offset v ≡ Some offset → Describes v w → w ≡ ContextAddress offset
context_word value.Unknown w offset e d = absurd (cc)
context_word value.Plain w offset e d = absurd (cc)
context_word value.Address w offset e d = absurd (cc)
context_word (value.Number n) w offset e d = absurd (cc)
context_word (value.Map m j) w offset e d = absurd (cc)
context_word (value.Frame j) w offset e d = absurd (cc)
context_word (value.Part m j k) w offset e d = absurd (cc)
context_word (value.Context j) w offset e d =
    let same : j ≡ offset = cc in
    d ∙ ap (λ (i : ℕ). ContextAddress i) same

source_word : (b : Bool) (v : Value) (w : Word) (offset : ℕ) → cond b (context_offset v) None ≡ Some offset → Describes v w → w ≡ ContextAddress offset
source_word true v w offset e d = context_word v w offset e d
source_word false v w offset e d = absurd (cc)

fact_word : (facts : Facts) (f : Option (Option Known)) (s : bpf_insn) (known : Known) (words : List Word) (offset : ℕ) → IsMet f known → offset_at s (flat_option f) ≡ Some offset → AreDescribed known words → word_at words (src_reg_of s) ≡ ContextAddress offset
fact_word facts None s known words offset m e d = absurd (cc)
fact_word facts (Some None) s known words offset m e d = absurd m
fact_word facts (Some (Some k)) s known words offset m e d =
    source_word (eqb (s.code % 8) 1) (value_in k (src_reg_of s)) (word_at words (src_reg_of s)) offset e
    (described_at k words (src_reg_of s) (all_weaker k known words m d))

loads_as_said : (code : Code) (a : State) → IsEverywhere code a → LoadsAsSaid code a
loads_as_said code a h n offset e load =
    let here = h.each load.facts load.closed in
    let index : index_in (length code.slots) a.slot ≡ Some n = ap (λ (z : ℤ). index_in (length code.slots) z) e ∙ slot_index code n load.s load.here in
    fact_word load.facts (slice_get load.facts n) load.s here.known a.registers offset (met_here load.facts (index_in (length code.slots) a.slot) n here.known index here.met) load.known here.described

all_reached : (code : Code) (a : State) (states : List State) → IsEverywhere code a → IsRun code a states → AllReached code (a ∷ states)
all_reached code a [] h r = (reached_at code a.slot a refl h, loads_as_said code a h, tt)
all_reached code a (b ∷ states) h r =
    (reached_at code a.slot a refl h, loads_as_said code a h, all_reached code b states (record { each = λ facts c. step code facts a b c (h.each facts c) r.0 }) r.1)

start_met : (code : Code) (facts : Facts) (o : Option ℕ) → IsClosed code facts → (o ≡ None) ⊎ (o ≡ Some 0) → AllMet facts (to_index o at_start)
start_met code facts None c e = tt
start_met code facts (Some n) c (inl e) = absurd (cc)
start_met code facts (Some n) c (inr e) =
    let same : n ≡ 0 = cc in
    (subst (λ (i : ℕ). IsMet (slice_get facts i) at_start) (sym same) c.start, tt)

first_index : (v : Bool) → (cond {A = Option ℕ} v (Some 0) None ≡ None) ⊎ (cond {A = Option ℕ} v (Some 0) None ≡ Some 0)
first_index true = inr refl
first_index false = inl refl

pub visits_reached : VisitsReached
visits_reached = record {
  each = λ code first states e l g p w r. all_reached code first states (record {
    each = λ facts c. record {
      known = at_start;
      size = l.size;
      met = subst (λ (z : ℤ). AllMet facts (to_slot code z at_start)) (sym e) (start_met code facts (index_in (length code.slots) (pos 0)) c (first_index (nat_lt 0 (length code.slots))));
      described = start_described first.registers l g p;
      inside = subst (λ (ws : List Waiting). RunsIn code facts (index_in (length code.slots) first.slot) ws) (sym w) tt;
      waiting = subst (λ (ws : List Waiting). AreWaiting code facts ws) (sym w) tt;
    };
  }) r;
}

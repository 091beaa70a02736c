-- The linked program visits the same slots as its functions.
use Rattle.std.proofs.Common.{◌≡◌, ℕ, ◌+◌, ◌*◌, ◌%◌, Bool, true, false, cond, List, [], ◌∷◌, Option, Some, None, refl, sym, ap, ◌∙◌, subst, inl, inr, arith, eqb, ℤ, pos, negsuc, ◌+ℤ◌, ◌-ℤ◌}
use Rattle.std.specs.Prelude.{slice_get}
use Rattle.std.proofs.lemmas.Option.{slice_get_within}
use Rattle.std.proofs.lemmas.Int.{ints}
use Rattle.std.proofs.lemmas.Bool.Decides.{nat_tests}
use Rattle.ebpf_items.specs.declared.instruction.bpf_insn.{bpf_insn}
use Rattle.linker.specs.Layout.{Key, Table, ref_at, flat_option, IsLayout, start_of, marked, aimed, placed, linked}
use Rattle.ebpf_items.specs.Instruction.{is_pseudo_call, dst_reg_of}
use Rattle.linker.specs.Machines.{Outside, Ends, Shows, Move, Leave, Call, By, is_jump, move_of, slot_at, nat_of, Frame, may_run, SourceRun, source_leave, source_move, source_show, source_step, source_run, FlatRun, flat_leave, flat_move, source_place, flat_show, flat_run, ends_outside, SameSlot, SameEvent, Agree, VisitsSame}
use Rattle.linker.proofs.Keys.{IsOf, all_closed, closed_ref}
use Rattle.linker.specs.Copies.{IsCopy}
use Rattle.linker.proofs.Flat.{start_copy, has_start, fetch, place}

-- A position stands for a frame: it lies in a copy of the frame's function.
record IsAt (t : Table) (own : Key) (ks : List Key) (f : Frame) (p : ℤ) : Type 0 where
  start : ℕ
  copy : IsCopy t own ks f.key start
  position : p ≡ pos start +ℤ f.slot

abbrev AreAt : Table → Key → List Key → List Frame → List ℤ → Type 0
AreAt t own ks [] [] = Unit {0}
AreAt t own ks (f ∷ fs) (p ∷ ps) = IsAt t own ks f p × AreAt t own ks fs ps
AreAt t own ks [] (p ∷ ps) = ⊥
AreAt t own ks (f ∷ fs) [] = ⊥

record Follows (t : Table) (own : Key) (ks : List Key) (sg : SourceRun) (fg : FlatRun) : Type 0 where
  each : (fs : List Frame) (p : ℤ) (ps : List ℤ) → AreAt t own ks fs (p ∷ ps) → ends_outside (sg fs) ≡ false → Agree t own ks (sg fs) (fg p ps)

record Leads (t : Table) (own : Key) (ks : List Key) (key : Key) (p : ℤ) (imm : ℤ) : Type 0 where
  start : ℕ
  known : start_of t own ks key ≡ Some start
  there : pos start ≡ (p +ℤ pos 1) +ℤ imm

abbrev LeadsIf : Table → Key → List Key → Option Key → ℤ → ℤ → Type 0
LeadsIf t own ks None p imm = Unit {0}
LeadsIf t own ks (Some key) p imm = Leads t own ks key p imm

module _ (t : Table) (own : Key) (ks : List Key) (sg : SourceRun) (fg : FlatRun) (ih : Follows t own ks sg fg) where
  leaves : (fs : List Frame) (ps : List ℤ) → AreAt t own ks fs ps → ends_outside (source_leave sg fs) ≡ false → Agree t own ks (source_leave sg fs) (flat_leave fg ps)
  leaves [] [] m o = refl
  leaves [] (p ∷ ps) m o = absurd m
  leaves (f ∷ fs) [] m o = absurd m
  leaves (f ∷ fs) (p ∷ ps) m o = ih.each (f ∷ fs) p ps m o

  moved_by : (f : Frame) (fs : List Frame) (p : ℤ) (ps : List ℤ) (z : ℤ) → IsAt t own ks f p → IsAt t own ks (record f { slot = f.slot +ℤ z }) (p +ℤ z)
  moved_by f fs p ps z a = record { start = a.start; copy = a.copy; position = let h = a.position in omega (arith, ints) }

  moves : (m : Move) (r : Option Key) (f : Frame) (fs : List Frame) (s : bpf_insn) (p : ℤ) (ps : List ℤ) → IsAt t own ks f p → AreAt t own ks fs ps → LeadsIf t own ks r p s.imm → ends_outside (source_move sg m r f fs) ≡ false → Agree t own ks (source_move sg m r f fs) (flat_move fg m s p ps)
  moves Leave r f fs s p ps a m l o = leaves fs ps m o
  moves Call None f fs s p ps a m l o = absurd (cc)
  moves Call (Some key) f fs s p ps a m l o =
      let new : IsAt t own ks (record { key = key; slot = pos 0 }) ((p +ℤ pos 1) +ℤ s.imm) =
      record { start = l.start; copy = start_copy t own ks key l.start l.known; position = let h = l.there in omega (arith, ints) } in
      ih.each _ _ _ (new, (moved_by f fs p ps (pos 1) a, m)) o
  moves (By z) r f fs s p ps a m l o = ih.each _ _ _ (moved_by f fs p ps z a, m) o

-- How a slot moves control, by the slot's fields.
abbrev move_at : Bool → ℕ → ℤ → ℤ → Bool → Move
move_at v code off imm d =
    cond (eqb code 149) Leave (cond v Call (cond (eqb code 24) (By (pos 2)) (cond (eqb code 5) (By (pos 1 +ℤ off)) (cond (eqb code 6) (By (pos 1 +ℤ imm)) (cond (is_jump code) (cond d (By (pos 1 +ℤ off)) (By (pos 1))) (By (pos 1)))))))

abbrev aimed_by : Bool → ℕ → ℕ → bpf_insn → bpf_insn
aimed_by v start p s = record (marked v s) { imm = (pos start -ℤ pos p) -ℤ pos 1 }

-- A load of 64 bits moves control by two slots, whatever its other fields.
load_move : (s : bpf_insn) (d : Bool) → s.code ≡ 24 → move_of s d ≡ By (pos 2)
load_move s d e = ap (λ c. move_of (record s { code = c }) d) e

aimed_move : (v : Bool) (start p : ℕ) (s : bpf_insn) (d : Bool) → is_pseudo_call s ≡ v → cond v true (eqb s.code 24) ≡ true → move_of (aimed_by v start p s) d ≡ move_of s d
aimed_move true start p s d e h =
    ap (λ v. move_at v s.code s.off ((pos start -ℤ pos p) -ℤ pos 1) d) e ∙ sym (ap (λ v. move_at v s.code s.off s.imm d) e)
aimed_move false start p s d e h =
    let c : s.code ≡ 24 = grind (arith, nat_tests) in
    load_move (aimed_by false start p s) d c ∙ sym (load_move s d c)

aimed_code : (v : Bool) (start p : ℕ) (s : bpf_insn) → s.code ≡ (aimed_by v start p s).code
aimed_code true start p s = refl
aimed_code false start p s = refl

aimed_off : (v : Bool) (start p : ℕ) (s : bpf_insn) → s.off ≡ (aimed_by v start p s).off
aimed_off true start p s = refl
aimed_off false start p s = refl

aimed_imm : (v : Bool) (start p : ℕ) (s : bpf_insn) → (aimed_by v start p s).imm ≡ (pos start -ℤ pos p) -ℤ pos 1
aimed_imm true start p s = refl
aimed_imm false start p s = refl

low_part : (r : ℕ) → r % 16 ≡ (4 % 16 * 16 + r % 16) % 16
low_part r = omega arith

aimed_dst : (v : Bool) (start p : ℕ) (s : bpf_insn) → dst_reg_of s ≡ dst_reg_of (aimed_by v start p s)
aimed_dst true start p s = refl
aimed_dst false start p s = low_part s.registers

-- A reference points to the slot at which its function's copy begins.
there_is : (start p : ℕ) → pos start ≡ (pos p +ℤ pos 1) +ℤ ((pos start -ℤ pos p) -ℤ pos 1)
there_is start p = omega (arith, ints)

record Stands (t : Table) (own : Key) (ks : List Key) (r : Option Key) (p : ℕ) (s s' : bpf_insn) : Type 0 where
  same : SameSlot t own ks r p s s'
  move : (d : Bool) → move_of s' d ≡ move_of s d
  leads : LeadsIf t own ks r (pos p) s'.imm

stands : (t : Table) (own : Key) (ks : List Key) (r : Option Key) (p : ℕ) (s : bpf_insn) → may_run s r ≡ true → ((key : Key) → r ≡ Some key → (b : ℕ) × (start_of t own ks key ≡ Some b)) → Stands t own ks r p s (placed t own ks r p s)
stands t own ks None p s h k = record { same = refl; move = λ d. refl; leads = tt }
stands t own ks (Some key) p s h k =
    let b = k key refl in
    let v = is_pseudo_call s in
    let there : pos b.0 ≡ (pos p +ℤ pos 1) +ℤ (aimed_by v b.0 p s).imm = there_is b.0 p ∙ ap (λ z. (pos p +ℤ pos 1) +ℤ z) (sym (aimed_imm v b.0 p s)) in
    let made : Stands t own ks (Some key) p s (aimed_by (is_pseudo_call s) b.0 p s) = record {
      same = (aimed_code v b.0 p s, aimed_dst v b.0 p s, aimed_off v b.0 p s, (b.0, b.1, there));
      move = λ d. aimed_move (is_pseudo_call s) b.0 p s d refl h;
      leads = record { start = b.0; known = b.1; there = there };
    } in
    subst (λ o. Stands t own ks (Some key) p s (aimed o p s)) (sym b.1) made

shown : (t : Table) (own : Key) (ks : List Key) (sg : SourceRun) (fg : FlatRun) → Follows t own ks sg fg → (d : Bool) (r : Option Key) (f : Frame) (fs : List Frame) (s s' : bpf_insn) (n p : ℕ) (ps : List ℤ) → f.slot ≡ pos n → Stands t own ks r p s s' → IsAt t own ks f (pos p) → AreAt t own ks fs ps → ends_outside (source_move sg (move_of s d) r f fs) ≡ false → Agree t own ks (Shows (record { key = f.key; number = nat_of f.slot; slot = s; target = r }) (source_move sg (move_of s d) r f fs)) (Shows (record { key = f.key; number = n; position = p; slot = s' }) (flat_move fg (move_of s' d) s' (pos p) ps))
shown t own ks sg fg ih d r f fs s s' n p ps en st a m o =
    let event : SameEvent t own ks (record { key = f.key; number = nat_of f.slot; slot = s; target = r }) (record { key = f.key; number = n; position = p; slot = s' }) =
    record { key = refl; number = ap nat_of en; slot = st.same } in
    let rest = moves t own ks sg fg ih (move_of s d) r f fs s' (pos p) ps a m st.leads o in
    (event, subst (λ v. Agree t own ks (source_move sg (move_of s d) r f fs) (flat_move fg v s' (pos p) ps)) (sym (st.move d)) rest)

may : (t : Table) (own : Key) (ks : List Key) (sg : SourceRun) (fg : FlatRun) → Follows t own ks sg fg → IsLayout t own ks → (d : Bool) (k : Key) (n b : ℕ) (fs : List Frame) (s : bpf_insn) (ps : List ℤ) (v : Bool) → may_run s (ref_at t k n) ≡ v → IsCopy t own ks k b → slice_get (t.slots k) n ≡ Some s → ((key : Key) → ref_at t k n ≡ Some key → (b : ℕ) × (start_of t own ks key ≡ Some b)) → AreAt t own ks fs ps → ends_outside (cond v (Shows (record { key = k; number = n; slot = s; target = ref_at t k n }) (source_move sg (move_of s d) (ref_at t k n) (record { key = k; slot = pos n }) fs)) (Ends Outside)) ≡ false → Agree t own ks (cond v (Shows (record { key = k; number = n; slot = s; target = ref_at t k n }) (source_move sg (move_of s d) (ref_at t k n) (record { key = k; slot = pos n }) fs)) (Ends Outside)) (flat_show fg d (slice_get (linked t own ks) (b + n)) (source_place t own ks (b + n)) (pos (b + n)) ps)
may t own ks sg fg ih l d k n b fs s ps false e c g key m o = absurd (cc)
may t own ks sg fg ih l d k n b fs s ps true e c g key m o =
    let all = shown t own ks sg fg ih d (ref_at t k n) (record { key = k; slot = pos n }) fs s (placed t own ks (ref_at t k n) (b + n) s) n (b + n) ps refl (stands t own ks (ref_at t k n) (b + n) s e key) (record { start = b; copy = c; position = refl }) m o in
    let src = Shows (record { key = k; number = n; slot = s; target = ref_at t k n }) (source_move sg (move_of s d) (ref_at t k n) (record { key = k; slot = pos n }) fs) in
    let at = fetch t own ks ks k b n s c g in
    let here = place t own ks k b n c (slice_get_within (t.slots k) n s g) in
    subst (λ o1. Agree t own ks src (flat_show fg d o1 (source_place t own ks (b + n)) (pos (b + n)) ps)) (sym at)
    (subst (λ o2. Agree t own ks src (flat_show fg d (Some (placed t own ks (ref_at t k n) (b + n) s)) o2 (pos (b + n)) ps)) (sym here) all)

copy_is : (t : Table) (own : Key) (ks : List Key) (k : Key) (b : ℕ) → IsCopy t own ks k b → IsOf own ks k
copy_is t own [] k b c = c.0
copy_is t own (x ∷ ks) k b (inl c) = inl c.0
copy_is t own (x ∷ ks) k b (inr c) = inr (copy_is t own ks k b c)

named : (o : Option (Option Key)) (key : Key) → flat_option o ≡ Some key → o ≡ Some (Some key)
named None key e = cc
named (Some r) key e = ap Some e

target : (t : Table) (own : Key) (ks : List Key) (k : Key) (b n : ℕ) (key : Key) → IsLayout t own ks → IsCopy t own ks k b → ref_at t k n ≡ Some key → (b : ℕ) × (start_of t own ks key ≡ Some b)
target t own ks k b n key l c e =
    let closed = all_closed t own ks k l (copy_is t own ks k b c) in
    has_start t own ks key (closed_ref ks (t.refs k) n key closed.none (named (slice_get (t.refs k) n) key e))

found : (t : Table) (own : Key) (ks : List Key) (sg : SourceRun) (fg : FlatRun) → Follows t own ks sg fg → IsLayout t own ks → (d : Bool) (k : Key) (n b : ℕ) (fs : List Frame) (ps : List ℤ) (o : Option bpf_insn) → slice_get (t.slots k) n ≡ o → IsCopy t own ks k b → AreAt t own ks fs ps → ends_outside (source_show sg d o (ref_at t k n) (record { key = k; slot = pos n }) fs) ≡ false → Agree t own ks (source_show sg d o (ref_at t k n) (record { key = k; slot = pos n }) fs) (flat_show fg d (slice_get (linked t own ks) (b + n)) (source_place t own ks (b + n)) (pos (b + n)) ps)
found t own ks sg fg ih l d k n b fs ps None e c m o = absurd (cc)
found t own ks sg fg ih l d k n b fs ps (Some s) e c m o =
    may t own ks sg fg ih l d k n b fs s ps (may_run s (ref_at t k n)) refl c e (λ key h. target t own ks k b n key l c h) m o

-- One step of both runs.
steps : (t : Table) (own : Key) (ks : List Key) (sg : SourceRun) (fg : FlatRun) → Follows t own ks sg fg → IsLayout t own ks → (d : Bool) (k : Key) (z : ℤ) (b : ℕ) (fs : List Frame) (ps : List ℤ) → IsCopy t own ks k b → AreAt t own ks fs ps → ends_outside (source_step t sg d (record { key = k; slot = z } ∷ fs)) ≡ false → Agree t own ks (source_step t sg d (record { key = k; slot = z } ∷ fs)) (flat_show fg d (slot_at (linked t own ks) (pos b +ℤ z)) (source_place t own ks (nat_of (pos b +ℤ z))) (pos b +ℤ z) ps)
steps t own ks sg fg ih l d k (pos n) b fs ps c m o = found t own ks sg fg ih l d k n b fs ps (slice_get (t.slots k) n) refl c m o
steps t own ks sg fg ih l d k (negsuc n) b fs ps c m o = absurd (cc)

stepping : (t : Table) (own : Key) (ks : List Key) → IsLayout t own ks → (d : Bool) (ds : List Bool) → Follows t own ks (source_run t ds) (flat_run t own ks (linked t own ks) ds) → (fs : List Frame) (p : ℤ) (ps : List ℤ) → AreAt t own ks fs (p ∷ ps) → ends_outside (source_run t (d ∷ ds) fs) ≡ false → Agree t own ks (source_run t (d ∷ ds) fs) (flat_run t own ks (linked t own ks) (d ∷ ds) p ps)
stepping t own ks l d ds ih [] p ps m o = absurd m
stepping t own ks l d ds ih (f ∷ fs) p ps m o =
    let go = flat_run t own ks (linked t own ks) ds in
    subst (λ q. Agree t own ks (source_run t (d ∷ ds) (f ∷ fs)) (flat_show go d (slot_at (linked t own ks) q) (source_place t own ks (nat_of q)) q ps)) (sym m.0.position)
    (steps t own ks (source_run t ds) go ih l d f.key f.slot m.0.start fs ps m.0.copy m.1 o)

follows : (t : Table) (own : Key) (ks : List Key) → IsLayout t own ks → (ds : List Bool) → Follows t own ks (source_run t ds) (flat_run t own ks (linked t own ks) ds)
follows t own ks l [] = record { each = λ fs p ps m o. refl }
follows t own ks l (d ∷ ds) = record { each = stepping t own ks l d ds (follows t own ks l ds) }

own_copy : (t : Table) (own : Key) (ks : List Key) → IsCopy t own ks own 0
own_copy t own [] = (refl, refl)
own_copy t own (k ∷ ks) = inr (own_copy t own ks)

pub visits_same : (t : Table) (own : Key) (ks : List Key) → IsLayout t own ks → VisitsSame t own ks (linked t own ks)
visits_same t own ks l =
    let at : IsAt t own ks (record { key = own; slot = pos 0 }) (pos 0) = record { start = 0; copy = own_copy t own ks; position = refl } in
    record { each = λ ds o. (follows t own ks l ds).each (record { key = own; slot = pos 0 } ∷ []) (pos 0) [] (at, tt) o }

-- The least facts answer for each slot whether it is reached.
use Rattle.std.proofs.Common.{◌≡◌, ◌<◌, ◌≤◌, ℕ, zero, suc, ◌+◌, ◌%◌, cond, nat_lt, eqb, arith, length, take, drop, get_or, Bool, true, false, List, [], ◌∷◌, ◌++◌, map, Option, Some, None, refl, sym, ap, ◌∙◌, subst}
use Rattle.std.specs.Prelude.{slice_get, is_some, IsSome, IsTrue, unwrap_or}
use Rattle.std.proofs.lemmas.Bool.{ltb-true, ltb-false}
use Rattle.std.proofs.lemmas.List.{append_assoc, at_drop_more, length-map, length-take-le}
use Rattle.std.proofs.lemmas.Option.{slice_get_within}
use Rattle.ebpf_items.specs.declared.instruction.bpf_insn.{bpf_insn}
use Rattle.ebpf_items.specs.Instruction.{src_reg_of}
use Rattle.plan_values.specs.declared.value.Value.{Value}
use Rattle.plan_values.specs.declared.value.Value.TheVariants as value
use Rattle.plan_values.specs.Knowledge.{Known, value_in}
use Rattle.plan_values.specs.Values.{SaysNoMore}
use Rattle.plan_values.proofs.Within.{within_value}
use Rattle.plan_values.specs.Programs.{Code}
use Rattle.plan_registers.specs.Reach.{Facts, IsLeast, IsReached, LoadsContext, AreReached, context_offset, flat_option, offset_at, offsets_in, source_offset}

answer_is : (facts : Facts) (slot : ℕ) → unwrap_or (slice_get (map is_some facts) slot) false ≡ is_some (flat_option (slice_get facts slot))
answer_is [] slot = refl
answer_is (f ∷ fs) zero = refl
answer_is (f ∷ fs) (suc slot) = answer_is fs slot

found : (facts : Facts) (slot : ℕ) (f : Option (Option Known)) → slice_get facts slot ≡ f → IsTrue (is_some (flat_option f)) → (known : Known) × (slice_get facts slot ≡ Some (Some known))
found facts slot None e h = absurd (cc)
found facts slot (Some None) e h = absurd (cc)
found facts slot (Some (Some known)) e h = (known, e)

cut : {A : Type 0} → (xs : List A) (n slot : ℕ) → slot < n → slice_get (take n xs) slot ≡ slice_get xs slot
cut xs zero slot h = absurd (omega (arith, h))
cut [] (suc n) slot h = refl
cut (x ∷ xs) (suc n) zero h = refl
cut (x ∷ xs) (suc n) (suc slot) h = cut xs n slot (omega (arith, h))

past : {A : Type 0} → (xs : List A) (n slot : ℕ) → n ≤ slot → slice_get (take n xs) slot ≡ None
past xs zero slot h = refl
past [] (suc n) slot h = refl
past (x ∷ xs) (suc n) zero h = absurd (omega (arith, h))
past (x ∷ xs) (suc n) (suc slot) h = past xs n slot (omega (arith, h))

found_inside : (facts : Facts) (n slot : ℕ) → IsTrue (is_some (flat_option (slice_get (take n facts) slot))) → (v : Bool) → nat_lt slot n ≡ v → (slot < n) × IsTrue (is_some (flat_option (slice_get facts slot)))
found_inside facts n slot h true e =
    let inside : slot < n = ltb-true slot n e in
    (inside, subst (λ (f : Option (Option Known)). IsTrue (is_some (flat_option f))) (cut facts n slot inside) h)
found_inside facts n slot h false e =
    let none : IsTrue (is_some (flat_option {A = Known} None)) = subst (λ (f : Option (Option Known)). IsTrue (is_some (flat_option f))) (past facts n slot (ltb-false slot n e)) h in
    absurd (cc)

reached : (code : Code) (facts : Facts) (slot : ℕ) → IsLeast code facts → (slot < length code.slots) × IsTrue (is_some (flat_option (slice_get facts slot))) → IsReached code slot
reached code facts slot l h =
    let k = found facts slot (slice_get facts slot) refl h.1 in
    record {
      inside = h.0;
      each = λ other c.
          let b = (l.least other c).each slot k.0 k.1 in
          subst (λ (f : Option (Option Known)). IsSome (flat_option f)) (sym b.1) refl;
    }

-- Loads from the context.

abbrev offset_of : Option bpf_insn → Option Known → Option ℕ
offset_of None fact = None
offset_of (Some s) fact = offset_at s fact

no_offset : (o : Option bpf_insn) → offset_of o None ≡ None
no_offset None = refl
no_offset (Some s) = refl

offset_is : (ss : List bpf_insn) (facts : Facts) (slot : ℕ) → flat_option (slice_get (offsets_in ss facts) slot) ≡ offset_of (slice_get ss slot) (flat_option (slice_get facts slot))
offset_is [] facts slot = refl
offset_is (s ∷ ss) [] slot = sym (no_offset (slice_get (s ∷ ss) slot))
offset_is (s ∷ ss) (f ∷ fs) zero = refl
offset_is (s ∷ ss) (f ∷ fs) (suc slot) = offset_is ss fs slot

context_kept : (a b : Value) (offset : ℕ) → context_offset a ≡ Some offset → SaysNoMore a b → context_offset b ≡ Some offset
context_kept value.Unknown b offset e p = absurd (cc)
context_kept value.Plain b offset e p = absurd (cc)
context_kept value.Address b offset e p = absurd (cc)
context_kept (value.Number n) b offset e p = absurd (cc)
context_kept (value.Map m j) b offset e p = absurd (cc)
context_kept (value.Frame j) b offset e p = absurd (cc)
context_kept (value.Part m j k) b offset e p = absurd (cc)
context_kept (value.Context j) b offset e p = ap (λ (v : Value). context_offset v) p ∙ e

source_kept : (v : Bool) (a b : Value) (offset : ℕ) → cond v (context_offset a) None ≡ Some offset → SaysNoMore a b → cond v (context_offset b) None ≡ Some offset
source_kept true a b offset e p = context_kept a b offset e p
source_kept false a b offset e p = absurd (cc)

some_known : (f : Option Known) (s : bpf_insn) (offset : ℕ) → offset_at s f ≡ Some offset → IsTrue (is_some f)
some_known None s offset e = absurd (cc)
some_known (Some k) s offset e = refl

loads : (code : Code) (facts : Facts) (slot offset : ℕ) (o : Option bpf_insn) → IsLeast code facts → slice_get code.slots slot ≡ o → offset_of o (flat_option (slice_get facts slot)) ≡ Some offset → LoadsContext code slot offset
loads code facts slot offset None l e f = absurd (cc)
loads code facts slot offset (Some s) l e f = record {
  reached = reached code facts slot l (slice_get_within code.slots slot s e, some_known (flat_option (slice_get facts slot)) s offset f);
  s = s;
  here = e;
  facts = facts;
  closed = l.closed;
  known = f;
}

loaded : (code : Code) (facts : Facts) (slot offset : ℕ) → IsLeast code facts → LoadsContext code slot offset → offset_of (slice_get code.slots slot) (flat_option (slice_get facts slot)) ≡ Some offset
loaded code facts slot offset l h =
    let k = found facts slot (slice_get facts slot) refl (h.reached.each facts l.closed) in
    let b = (l.least h.facts h.closed).each slot k.0 k.1 in
    let there : source_offset h.s b.0 ≡ Some offset = subst (λ (f : Option (Option Known)). offset_at h.s (flat_option f) ≡ Some offset) b.1 h.known in
    let here : source_offset h.s k.0 ≡ Some offset = source_kept (eqb (h.s.code % 8) 1) (value_in b.0 (src_reg_of h.s)) (value_in k.0 (src_reg_of h.s)) offset there (within_value b.0 k.0 (src_reg_of h.s) b.2) in
    subst (λ (o : Option bpf_insn). offset_of o (flat_option (slice_get facts slot)) ≡ Some offset) (sym h.here)
    (subst (λ (f : Option (Option Known)). offset_at h.s (flat_option f) ≡ Some offset) (sym k.1) here)

-- One more offset.
pub offsets_more : (ss : List bpf_insn) (fs : Facts) (done all : List (Option ℕ)) (i : ℕ) (d : bpf_insn) (e : Option Known) → i < length ss → i < length fs → done ++ offsets_in (drop i ss) (drop i fs) ≡ all → (done ++ offset_at (get_or ss i d) (get_or fs i e) ∷ []) ++ offsets_in (drop (i + 1) ss) (drop (i + 1) fs) ≡ all
offsets_more ss fs done all i d e h g p =
    append_assoc done (offset_at (get_or ss i d) (get_or fs i e) ∷ []) (offsets_in (drop (i + 1) ss) (drop (i + 1) fs))
    ∙ (ap (λ (xs : List bpf_insn). done ++ offsets_in xs (get_or fs i e ∷ drop (i + 1) fs)) (sym (at_drop_more (λ (xs : List bpf_insn). xs) ss i d h))
    ∙ (ap (λ (xs : Facts). done ++ offsets_in (drop i ss) xs) (sym (at_drop_more (λ (xs : Facts). xs) fs i e g)) ∙ p))

pub are_reached : (code : Code) (facts : Facts) (answers : List Bool) (offsets : List (Option ℕ)) → IsLeast code facts → answers ≡ map is_some (take (length code.slots) facts) → offsets ≡ offsets_in code.slots facts → AreReached code (record { slots = answers; offsets = offsets })
are_reached code facts answers offsets l e f =
    subst (λ (bs : List Bool). AreReached code (record { slots = bs; offsets = offsets })) (sym e)
    (subst (λ (os : List (Option ℕ)). AreReached code (record { slots = map is_some (take (length code.slots) facts); offsets = os })) (sym f)
    (record {
      size = length-map (take (length code.slots) facts) is_some ∙ (length-take-le (length code.slots) facts (omega (arith, l.closed.size)));
      each = λ slot. (
        λ h. reached code facts slot l (found_inside facts (length code.slots) slot (subst (λ (v : Bool). IsTrue v) (answer_is (take (length code.slots) facts) slot) h) (nat_lt slot (length code.slots)) refl),
        λ r. subst (λ (v : Bool). IsTrue v) (sym (answer_is (take (length code.slots) facts) slot))
            (subst (λ (f : Option (Option Known)). IsTrue (is_some (flat_option f))) (sym (cut facts (length code.slots) slot r.inside)) (r.each facts l.closed)),
      );
      loads = λ slot offset. (
        λ h. loads code facts slot offset (slice_get code.slots slot) l refl (sym (offset_is code.slots facts slot) ∙ h),
        λ h. offset_is code.slots facts slot ∙ loaded code facts slot offset l h,
      );
    }))

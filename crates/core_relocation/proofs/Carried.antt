-- The slot that exactly one type relocation writes carries the relocation's outcome.
use Rattle.std.proofs.Common.{◌≡◌, ◌⊎◌, inl, inr, ◌==◌, ◌&&◌, ◌||◌, ◌+◌, ◌*◌, ◌/◌, ◌%◌, ◌<◌, ℕ, zero, suc, Bool, true, false, cond, List, [], ◌∷◌, ◌++◌, map, Option, None, Some, Result, Ok, Err, refl, sym, ap, subst, ◌∙◌, arith}
use Rattle.std.specs.Prelude.{IfSome, filter, if◌then◌else◌, length, nat_lt, option_and_then, pos, slice_get}
use Rattle.std.specs.BTreeMap.{is_at}
use Rattle.std.specs.Option.{option_map, option_map_or, option_to_list}
use Rattle.std.specs.Result.{result_ok}
use Rattle.std.proofs.lemmas.Bool.Decides.{nat_tests}
use Rattle.btf_ext.specs.SectionInfos.{SectionInfo}
use Rattle.btf_ext.specs.declared.record.bpf_core_relo.{bpf_core_relo}
use Rattle.btf_tables.specs.Tables.{Table}
use Rattle.core_patch.specs.Instructions.{both, first_alone, high_word, low_word, of_arithmetic, of_memory, of_poison, of_value, of_wide_load, patched, poison, width_bits, with_width, with_width_bits}
use Rattle.core_patch.specs.Patches.{patch_for, patch_of, width_of}
use Rattle.core_patch.specs.declared.instruction.WriteError.{WriteError}
use Rattle.core_patch.specs.declared.instruction.WriteError.TheVariants.{LargeOffset, NoNextPoison, NoNextSlot, OtherClass, OtherWidth, SourceRegister}
use Rattle.core_patch.specs.declared.patch.Patch.{Patch}
use Rattle.core_patch.specs.declared.patch.Width.{Width}
use Rattle.core_patch.specs.declared.patch.Width.TheVariants.{Changed, Kept, Unknown}
use Rattle.core_relocation.specs.Carried.{CarriesOutcome, CarriesType, HasInField, NextCarries, has_offset}
use Rattle.core_relocation.specs.Laws.{PutsAt}
use Rattle.core_relocation.specs.Relocations.{SectionInfos, TypesGiven, all_placed, function_holding, placed, placed_among, placed_as, placed_in, placed_section_info, record_outcome, section_at}
use Rattle.core_relocation.specs.Writes.{placed_at, type_rule}
use Rattle.core_relocation.specs.declared.placed_relocation.PlacedRelocation.{PlacedRelocation}
use Rattle.core_resolve.specs.declared.error.TypeRelocationError.{TypeRelocationError}
use Rattle.core_resolve.specs.declared.relocation.RelocationOutcome.{RelocationOutcome}
use Rattle.core_resolve.specs.declared.resolved.Resolved.{Resolved}
use Rattle.core_resolve.specs.declared.resolved.Resolved.TheVariants as outcomes
use Rattle.core_spec.specs.declared.field_values.WholeField.{WholeField}
use Rattle.ebpf_items.specs.Instruction.{src_reg_of}
use Rattle.ebpf_items.specs.declared.instruction.bpf_insn.{bpf_insn}
use Rattle.object_parts.specs.Content.{FunctionContent, key_cmp, key_of}
use Rattle.slot_relocation.specs.WriteLaws.{Makes, Puts}
use Rattle.slot_relocation.specs.Writes.{after_all, distance, index_of_slot, outcome_at}
use Rattle.slot_relocation.specs.declared.outcome.Outcome.{Outcome}
use Rattle.slot_relocation.specs.declared.outcome.Outcome.TheVariants.{Refused, Skipped, Written}
use Rattle.slot_relocation.specs.declared.outcome.Write.{Write}
use Rattle.core_relocation.proofs.Keys.{same_keys}

-- ---- The slots of a write

-- A value's write has the value in the field of the class of its first slot, and the high word in
-- the next slot if there is one.
record HasValue (w : Write) (value : ℕ) : Type 0 where
  first : HasInField (has_offset w.first) w.first value
  next : IfSome w.next (λ n. n.imm ≡ high_word value)

same-write : {E : Type 0} (v w : Write) (o : Outcome E) → Written v ≡ o → o ≡ Written w → v ≡ w
same-write v w o one two = cc

in-field : (s : bpf_insn) (value : ℕ) (b : Bool) → has_offset s ≡ b → HasInField b s value → HasInField (has_offset s) s value
in-field s value b is here = subst (λ (t : Bool). HasInField t s value) (sym is) here

-- The class of a code whose width changes.
class-stays : (code bits : ℕ) → bits % 8 ≡ 0 → (code / 32 * 32 + bits + code % 8) % 8 ≡ code % 8
class-stays code bits is = omega (arith, is)

not-memory : (class : ℕ) → (class == 4 || class == 7) ≡ true → (nat_lt 0 class && nat_lt class 4) ≡ false
not-memory class is = grind (arith, nat_tests)

no-class : (class : ℕ) → (class == 0) ≡ true → (nat_lt 0 class && nat_lt class 4) ≡ false
no-class class is = grind (arith, nat_tests)

memory : (class : ℕ) → (class == 0) ≡ false → nat_lt class 4 ≡ true → (nat_lt 0 class && nat_lt class 4) ≡ true
memory class some lt = grind (arith, nat_tests)

of-first : (s : bpf_insn) (value : ℕ) (w : Write) → HasInField (has_offset s) s value → first_alone s ≡ Written w → HasValue w value
of-first s value w here is =
    subst (λ (v : Write). HasValue v value) (same-write (record { first = s; next = None }) w (first_alone s) refl is) (record { first = here; next = tt })

of-both : (s n : bpf_insn) (value : ℕ) (w : Write) → HasInField (has_offset s) s value → n.imm ≡ high_word value → both s n ≡ Written w → HasValue w value
of-both s n value w here high is =
    subst (λ (v : Write). HasValue v value) (same-write (record { first = s; next = Some n }) w (both s n) refl is) (record { first = here; next = high })

arithmetic-held : (slot : bpf_insn) (value : ℕ) (w : Write) → (slot.code % 8 == 4 || slot.code % 8 == 7) ≡ true → of_arithmetic slot value ≡ Written w → HasValue w value
arithmetic-held slot value w class is = by (src_reg_of slot == 0) is where
  by : (b : Bool) → (if b then first_alone (record slot { imm = low_word value }) else Refused SourceRegister) ≡ Written w → HasValue w value
  by true at = of-first (record slot { imm = low_word value }) value w (in-field (record slot { imm = low_word value }) value false (not-memory (slot.code % 8) class) refl) at
  by false at = cc

wide-held : (slot : bpf_insn) (next : Option bpf_insn) (value : ℕ) (w : Write) → (slot.code % 8 == 0) ≡ true → of_wide_load slot next value ≡ Written w → HasValue w value
wide-held slot (Some n) value w class is =
    of-both (record slot { imm = low_word value }) (record n { imm = high_word value }) value w (in-field (record slot { imm = low_word value }) value false (no-class (slot.code % 8) class) refl) refl is
wide-held slot None value w class is = cc

-- The bits for a width don't reach the class.
bits-apart : (size bits : ℕ) → width_bits size ≡ Some bits → bits % 8 ≡ 0
bits-apart size bits is = by (size == 1) (size == 2) (size == 4) (size == 8) is where
  by : (a b c d : Bool) → (if a then Some 0x10 else if b then Some 0x08 else if c then Some 0x00 else if d then Some 0x18 else None) ≡ Some bits → bits % 8 ≡ 0
  by true b c d at = let e : 0x10 ≡ bits = cc in omega (arith, e)
  by false true c d at = let e : 0x08 ≡ bits = cc in omega (arith, e)
  by false false true d at = let e : 0x00 ≡ bits = cc in omega (arith, e)
  by false false false true at = let e : 0x18 ≡ bits = cc in omega (arith, e)
  by false false false false at = cc

width-held : (slot : bpf_insn) (value : ℕ) (width : Width) (w : Write) → has_offset slot ≡ true → slot.off ≡ pos value → with_width slot width ≡ Written w → HasValue w value
width-held slot value Kept w class off is = of-first slot value w (in-field slot value true class off) is
width-held slot value (Changed size) w class off is = by (width_bits size) refl is where
  by : (o : Option ℕ) → width_bits size ≡ o → option_map_or (λ bits. first_alone (record slot { code = with_width_bits slot.code bits })) o (Refused OtherWidth) ≡ Written w → HasValue w value
  by None at held = cc
  by (Some bits) at held =
      let stays : with_width_bits slot.code bits % 8 ≡ slot.code % 8 = class-stays slot.code bits (bits-apart size bits at) in
      let same : has_offset (record slot { code = with_width_bits slot.code bits }) ≡ true =
      ap (λ (c : ℕ). nat_lt 0 c && nat_lt c 4) stays ∙ class in
      of-first (record slot { code = with_width_bits slot.code bits }) value w (in-field (record slot { code = with_width_bits slot.code bits }) value true same off) held
width-held slot value Unknown w class off is = cc

memory-held : (slot : bpf_insn) (value : ℕ) (width : Width) (w : Write) → has_offset slot ≡ true → of_memory slot value width ≡ Written w → HasValue w value
memory-held slot value width w class is = by (nat_lt 32767 value) is where
  by : (b : Bool) → (if b then Refused LargeOffset else with_width (record slot { off = pos value }) width) ≡ Written w → HasValue w value
  by true at = cc
  by false at = width-held (record slot { off = pos value }) value width w class refl at

value-held : (slot : bpf_insn) (next : Option bpf_insn) (value : ℕ) (width : Width) (w : Write) → of_value slot next value width ≡ Written w → HasValue w value
value-held slot next value width w is = by (slot.code % 8 == 4 || slot.code % 8 == 7) (slot.code % 8 == 0) (nat_lt (slot.code % 8) 4) refl refl refl is where
  by : (a b c : Bool) → (slot.code % 8 == 4 || slot.code % 8 == 7) ≡ a → (slot.code % 8 == 0) ≡ b → nat_lt (slot.code % 8) 4 ≡ c → (if a then of_arithmetic slot value else if b then of_wide_load slot next value else if c then of_memory slot value width else Refused OtherClass) ≡ Written w → HasValue w value
  by true b c arithmetic wide less at = arithmetic-held slot value w arithmetic at
  by false true c arithmetic wide less at = wide-held slot next value w wide at
  by false false true arithmetic wide less at = memory-held slot value width w (memory (slot.code % 8) wide less) at
  by false false false arithmetic wide less at = cc

-- The write of an outcome carries it.
record Holds (w : Write) (outcome : Resolved) : Type 0 where
  first : CarriesOutcome outcome w.first
  next : IfSome w.next (NextCarries outcome)

poison-held : (slot : bpf_insn) (next : Option bpf_insn) (w : Write) → of_poison slot next ≡ Written w → Holds w outcomes.Poison
poison-held slot next w is = by (slot.code == 0x18) next is where
  by : (b : Bool) (o : Option bpf_insn) → (if b then option_map_or (λ n. both poison poison) o (Refused NoNextPoison) else first_alone poison) ≡ Written w → Holds w outcomes.Poison
  by true (Some n) at = subst (λ (v : Write). Holds v outcomes.Poison) (same-write (record { first = poison; next = Some poison }) w (both poison poison) refl at) (record { first = refl; next = refl })
  by true None at = cc
  by false o at = subst (λ (v : Write). Holds v outcomes.Poison) (same-write (record { first = poison; next = None }) w (first_alone poison) refl at) (record { first = refl; next = tt })

held : (slot : bpf_insn) (next : Option bpf_insn) (local : Table) (target : Option Table) (compiled : Option WholeField) (outcome : Resolved) (w : Write) → patched slot next (patch_for local target compiled outcome) ≡ Written w → Holds w outcome
held slot next local target compiled (outcomes.Value v) w is = let h = value-held slot next v.value (width_of local target compiled v.field) w is in record { first = h.first; next = h.next }
held slot next local target compiled outcomes.Poison w is = poison-held slot next w is

-- The outcome of the rule is that of the relocation's patch on some slot.
rule-written : (p : PlacedRelocation) (o next : Option bpf_insn) (w : Write) → option_map_or (λ slot. patched slot next p.patch) o Skipped ≡ Written w → (slot : bpf_insn) × (patched slot next p.patch ≡ Written w)
rule-written p None next w is = cc
rule-written p (Some slot) next w is = (slot, is)

-- ---- The record of a placed relocation

-- A member of a list.
abbrev Among : {A : Type 0} → List A → A → Type 0
Among [] x = ⊥
Among (y ∷ ys) x = (y ≡ x) ⊎ Among ys x

among-split : {A : Type 0} (before : List A) (r : A) (rest : List A) → Among (before ++ (r ∷ rest)) r
among-split [] r rest = inl refl
among-split (x ∷ before) r rest = inr (among-split before r rest)

among-append : {A : Type 0} (xs ys : List A) (r : A) → Among (xs ++ ys) r → Among xs r ⊎ Among ys r
among-append [] ys r is = inr is
among-append (x ∷ xs) ys r (inl here) = inl (inl here)
among-append (x ∷ xs) ys r (inr there) = by (among-append xs ys r there) where
  by : Among xs r ⊎ Among ys r → Among (x ∷ xs) r ⊎ Among ys r
  by (inl one) = inl (inr one)
  by (inr two) = inr two

-- A relocation among those of a key.
record IsOfKey (ps : List PlacedRelocation) (key : ℕ × ℕ) (r : ℕ × PlacedRelocation) : Type 0 where
  member : Among ps r.1
  offset : r.0 ≡ r.1.offset
  found : is_at (key_cmp key) r.1.key ≡ true

of-key : (ps : List PlacedRelocation) (key : ℕ × ℕ) (r : ℕ × PlacedRelocation) → Among (placed_at ps key) r → IsOfKey ps key r
of-key [] key r is = absurd is
of-key (p ∷ ps) key r is = by (is_at (key_cmp key) p.key) refl is (of-key ps key r) where
  more : IsOfKey ps key r → IsOfKey (p ∷ ps) key r
  more h = record { member = inr h.member; offset = h.offset; found = h.found }

  by : (b : Bool) → is_at (key_cmp key) p.key ≡ b → Among (map (λ q. (q.offset, q)) (cond b (p ∷ filter (λ q. is_at (key_cmp key) q.key) ps) (filter (λ q. is_at (key_cmp key) q.key) ps))) r
      → (Among (placed_at ps key) r → IsOfKey ps key r) → IsOfKey (p ∷ ps) key r
  by true at (inl here) rest = record {
    member = inl (ap (λ (x : ℕ × PlacedRelocation). x.1) here);
    offset = sym (ap (λ (x : ℕ × PlacedRelocation). x.0) here) ∙ ap (λ (x : ℕ × PlacedRelocation). x.1.offset) here;
    found = ap (λ (x : ℕ × PlacedRelocation). is_at (key_cmp key) x.1.key) (sym here) ∙ at;
  }
  by true at (inr there) rest = more (rest there)
  by false at there rest = more (rest there)

-- What a placed relocation was placed from.
record IsPlaced (g : TypesGiven) (section : Option ℕ) (r : bpf_core_relo) (p : PlacedRelocation) : Type 0 where
  in_section : ℕ
  known : section ≡ Some in_section
  function : FunctionContent
  holds : function_holding g.functions in_section r.insn_off ≡ Some function
  outcome : RelocationOutcome
  resolved : record_outcome g r ≡ Ok outcome
  key : p.key ≡ key_of function
  offset : p.offset ≡ r.insn_off
  patch : p.patch ≡ patch_of g.local g.targets outcome

placed-from-record : (g : TypesGiven) (section : Option ℕ) (r : bpf_core_relo) (p : PlacedRelocation) → placed g section r ≡ Some p → IsPlaced g section r p
placed-from-record g None r p is = cc
placed-from-record g (Some s) r p is = by (function_holding g.functions s r.insn_off) (record_outcome g r) refl refl is where
  by : (o : Option FunctionContent) (result : Result RelocationOutcome TypeRelocationError) → function_holding g.functions s r.insn_off ≡ o → record_outcome g r ≡ result
      → option_and_then (λ f. option_map (placed_as g r f) (result_ok result)) o ≡ Some p → IsPlaced g (Some s) r p
  by None result at has there = cc
  by (Some f) (Err e) at has there = cc
  by (Some f) (Ok o) at has there =
      let same : placed_as g r f o ≡ p = cc in
      record {
        in_section = s;
        known = refl;
        function = f;
        holds = at;
        outcome = o;
        resolved = has;
        key = ap (λ (x : PlacedRelocation). x.key) (sym same);
        offset = ap (λ (x : PlacedRelocation). x.offset) (sym same);
        patch = ap (λ (x : PlacedRelocation). x.patch) (sym same);
      }

-- A placed relocation is that of a record of a list.
record IsOfRecord (g : TypesGiven) (section : Option ℕ) (rs : List bpf_core_relo) (p : PlacedRelocation) : Type 0 where
  number : ℕ
  relocation : bpf_core_relo
  within : slice_get rs number ≡ Some relocation
  is : IsPlaced g section relocation p

of-record : (g : TypesGiven) (section : Option ℕ) (rs : List bpf_core_relo) (p : PlacedRelocation) → Among (placed_among g section rs) p → IsOfRecord g section rs p
of-record g section [] p is = absurd is
of-record g section (r ∷ rs) p is =
    by (placed g section r) refl (among-append (option_to_list (placed g section r)) (placed_among g section rs) p is) (of-record g section rs p) where
      by : (o : Option PlacedRelocation) → placed g section r ≡ o → Among (option_to_list o) p ⊎ Among (placed_among g section rs) p
          → (Among (placed_among g section rs) p → IsOfRecord g section rs p) → IsOfRecord g section (r ∷ rs) p
      by o at (inr there) rest = let h = rest there in record { number = suc h.number; relocation = h.relocation; within = h.within; is = h.is }
      by None at (inl here) rest = absurd here
      by (Some q) at (inl (inr none)) rest = absurd none
      by (Some q) at (inl (inl here)) rest = record {
        number = zero;
        relocation = r;
        within = refl;
        is = placed-from-record g section r p (at ∙ ap (λ (x : PlacedRelocation). Some x) here);
      }

-- A placed relocation is that of a record of a section info.
record IsOfSectionInfo (g : TypesGiven) (xs : SectionInfos) (p : PlacedRelocation) : Type 0 where
  index : ℕ
  section_info : SectionInfo bpf_core_relo
  among : slice_get xs index ≡ Some section_info
  of : IsOfRecord g (section_at g section_info.name_offset) section_info.records p

of-section-info : (g : TypesGiven) (xs : SectionInfos) (p : PlacedRelocation) → Among (all_placed g xs) p → IsOfSectionInfo g xs p
of-section-info g [] p is = absurd is
of-section-info g (x ∷ xs) p is =
    by (among-append (placed_section_info g x) (all_placed g xs) p is) (of-section-info g xs p) where
      by : Among (placed_section_info g x) p ⊎ Among (all_placed g xs) p → (Among (all_placed g xs) p → IsOfSectionInfo g xs p) → IsOfSectionInfo g (x ∷ xs) p
      by (inl here) rest = record { index = zero; section_info = x; among = refl; of = of-record g (section_at g x.name_offset) x.records p here }
      by (inr there) rest = let h = rest there in record { index = suc h.index; section_info = h.section_info; among = h.among; of = h.of }

-- ---- The slot

next-of : (w : Write) (outcome : Resolved) (s : bpf_insn) → IfSome w.next (NextCarries outcome) → w.next ≡ Some s → NextCarries outcome s
next-of w outcome s held is = subst (λ (o : Option bpf_insn). IfSome o (NextCarries outcome)) is held

pub slot_carries_type : (g : TypesGiven) (section_infos : SectionInfos) (f : FunctionContent) (place : ℕ) (s : bpf_insn) → PutsAt g section_infos f place s → CarriesType g section_infos f place s
slot_carries_type g section_infos f place s puts =
    let r = puts.relocation in
    let m = puts.made in
    let listed = of-key (all_placed g section_infos) (key_of f) r (subst (λ (rs : List (ℕ × PlacedRelocation)). Among rs r) m.split (among-split m.before r m.rest)) in
    let info = of-section-info g section_infos r.1 listed.member in
    let placed-here = info.of.is in
    let slots = after_all type_rule f m.before in
    let written = rule-written r.1 (slice_get slots (distance f r.0 / 8)) (slice_get slots (distance f r.0 / 8 + 1)) puts.write m.outcome in
    let holds = held written.0 (slice_get slots (distance f r.0 / 8 + 1)) g.local (option_and_then (slice_get g.targets) placed-here.outcome.table) placed-here.outcome.local_field placed-here.outcome.outcome puts.write
    (ap (patched written.0 (slice_get slots (distance f r.0 / 8 + 1))) (sym placed-here.patch) ∙ written.1) in
    let at : index_of_slot f info.of.relocation.insn_off ≡ index_of_slot f r.0 = ap (index_of_slot f) (sym placed-here.offset ∙ sym listed.offset) in
    record {
      index = info.index;
      section_info = info.section_info;
      among = info.among;
      number = info.of.number;
      relocation = info.of.relocation;
      within = info.of.within;
      section = placed-here.in_section;
      named = placed-here.known;
      function = placed-here.function;
      holds = placed-here.holds;
      here = same_keys (key_of f) r.1.key listed.found ∙ placed-here.key;
      outcome = placed-here.outcome;
      resolved = placed-here.resolved;
      carried = by puts.puts holds at;
    } where
      by : {w : Write} {o : Resolved} {i k : ℕ} → Puts k w place s → Holds w o → i ≡ k → ((i ≡ place) × CarriesOutcome o s) ⊎ ((i + 1 ≡ place) × NextCarries o s)
      by {w} {o} {i} {k} (inl first) holds at = inl (at ∙ first.0, subst (CarriesOutcome o) first.1 holds.first)
      by {w} {o} {i} {k} (inr next) holds at = inr (ap (λ (n : ℕ). n + 1) at ∙ next.0, next-of w o s holds.next next.1)

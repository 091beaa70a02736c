-- Instructions and their fields.
use Rattle.std.proofs.Common.{◌≡◌, ◌⊎◌, ℕ, ◌+◌, ◌*◌, ◌/◌, ◌%◌, ◌^◌, ◌<◌, Bool, true, false, cond, List, Option, Some, None, refl, ap, sym, ◌∙◌, subst, arith, ℤ, pos, inl, inr}
use Rattle.std.specs.Prelude.{◌==◌, ◌&&◌, nat_le, FitsSigned, IfSome, option_map}
use Rattle.std.specs.Int.{w32}
use Rattle.std.specs.Ordering.{int_eq}
use Rattle.std.proofs.lemmas.Bool.Decides.{nat_tests, Decides-int_eq}
use Rattle.ebpf_items.specs.declared.instruction.bpf_insn.{bpf_insn}
use Rattle.ebpf_items.specs.Instruction.{bytes_of, dst_reg_of, src_reg_of}
use Rattle.instruction_text.specs.declared.instruction.Instruction.{Instruction}
use Rattle.instruction_text.specs.declared.parts.Parts.{Parts}
use Rattle.instruction_text.specs.Fields.{are_same, first_slot, high_in, high_of, is_plain, parts_of, parts_with, second_slot, second_slot_of}
use Rattle.instruction_text.specs.Forms.{Form, forms}
use Rattle.instruction_text.specs.Laws.{IsSlot}
use Rattle.instruction_text.specs.Reading.{instruction_of}
use Rattle.instruction_text.specs.Texts.{byte_text, fields_of, filled, form_for, pieces_of, rendered, second_by, second_from, taken, text_by, text_from, text_of}
use Rattle.instruction_text.proofs.Numbers.{IsParts}
use Rattle.instruction_text.proofs.FormTable.{IsIn, found_in}

-- Equal fields.

six : (a b c d e f : Bool) → (a && b && c && d && e && f) ≡ true → (a ≡ true) × (b ≡ true) × (c ≡ true) × (d ≡ true) × (e ≡ true) × (f ≡ true)
six true true true true true true h = (refl, refl, refl, refl, refl, refl)
six true true true true true false h = cc
six true true true true false f h = cc
six true true true false e f h = cc
six true true false d e f h = cc
six true false c d e f h = cc
six false b c d e f h = cc

four : (a b c d : Bool) → (a && b && c && d) ≡ true → (a ≡ true) × (b ≡ true) × (c ≡ true) × (d ≡ true)
four true true true true h = (refl, refl, refl, refl)
four true true true false h = cc
four true true false d h = cc
four true false c d h = cc
four false b c d h = cc

eq_is : (m n : ℕ) → (m == n) ≡ true → m ≡ n
eq_is m n h = grind (arith, nat_tests)

int_is : (x y : ℤ) → int_eq x y ≡ true → x ≡ y
int_is x y h = (Decides-int_eq x y).0 h

parts_equal : (p q : Parts) → p.code ≡ q.code → p.destination ≡ q.destination → p.source ≡ q.source → p.offset ≡ q.offset → p.immediate ≡ q.immediate → p.high ≡ q.high → p ≡ q
parts_equal p q a b c d e f =
    ap (λ x. record p { code = x }) a
    ∙ ap (λ x. record p { code = q.code; destination = x }) b
    ∙ ap (λ x. record p { code = q.code; destination = q.destination; source = x }) c
    ∙ ap (λ x. record p { code = q.code; destination = q.destination; source = q.source; offset = x }) d
    ∙ ap (λ x. record p { code = q.code; destination = q.destination; source = q.source; offset = q.offset; immediate = x }) e
    ∙ ap (λ x. record q { high = x }) f

same_parts : (p q : Parts) → are_same p q ≡ true → p ≡ q
same_parts p q h =
    let t = six (p.code == q.code) (p.destination == q.destination) (p.source == q.source) (int_eq p.offset q.offset) (int_eq p.immediate q.immediate) (int_eq p.high q.high) h in
    parts_equal p q (eq_is p.code q.code t.0) (eq_is p.destination q.destination t.1) (eq_is p.source q.source t.2) (int_is p.offset q.offset t.3) (int_is p.immediate q.immediate t.4) (int_is p.high q.high t.5)

-- The slots of fields.

first_again : (a : bpf_insn) (high : ℤ) → a.registers < 2 ^ 8 → first_slot (parts_with a high) ≡ a
first_again a high h =
    let e : a.registers / 16 % 16 * 16 + a.registers % 16 % 16 ≡ a.registers = omega arith in
    ap (λ r. record a { registers = r }) e

plain_is : (s : bpf_insn) → is_plain s ≡ true → s ≡ second_slot s.imm
plain_is s h =
    let t = four (s.code == 0) (dst_reg_of s == 0) (src_reg_of s == 0) (int_eq s.off (pos 0)) h in
    let low = eq_is (s.registers % 16) 0 t.1 in
    let high = eq_is (s.registers / 16) 0 t.2 in
    let none : s.registers ≡ 0 = omega arith in
    ap (λ c. record s { code = c }) (eq_is s.code 0 t.0)
    ∙ ap (λ r. record s { code = 0; registers = r }) none
    ∙ ap (λ o. record s { code = 0; registers = 0; off = o }) (int_is s.off (pos 0) t.3)

-- The second slot of a load of 64 bits is the slot with its high half.
abbrev IsSecond : Bool → Option bpf_insn → ℤ → Type 0
IsSecond true b high = b ≡ Some (second_slot high)
IsSecond false b high = Unit {0}

high_found : (b : Option bpf_insn) (high : ℤ) → IfSome b IsSlot → high_in b ≡ Some high → FitsSigned w32 high × (b ≡ Some (second_slot high))
high_found None high fits h = cc
high_found (Some s) high fits h = by_test (is_plain s) refl h
  where
    by_test : (v : Bool) → is_plain s ≡ v → cond v (Some s.imm) None ≡ Some high → FitsSigned w32 high × (Some s ≡ Some (second_slot high))
    by_test true e h =
        let same : s.imm ≡ high = cc (h) in
        (subst (FitsSigned w32) same fits.imm, ap Some (plain_is s e ∙ ap second_slot same))
    by_test false e h = cc

zero_fits : FitsSigned w32 (pos 0)
zero_fits = record { sfits = omega arith }

high_cases : (v : Bool) (b : Option bpf_insn) (high : ℤ) → IfSome b IsSlot → cond v (high_in b) (Some (pos 0)) ≡ Some high → FitsSigned w32 high × IsSecond v b high
high_cases true b high fits h = high_found b high fits h
high_cases false b high fits h = let same : pos 0 ≡ high = cc (h) in (subst (FitsSigned w32) same zero_fits, tt)

second_is : (v : Bool) (b : Option bpf_insn) (high : ℤ) → IsSecond v b high → cond v (Some (second_slot high)) None ≡ cond v b None
second_is true b high h = sym h
second_is false b high h = refl

abbrev pub whole : bpf_insn → Option bpf_insn → Instruction
whole a b = record { first = a; second = cond (a.code == 0x18) b None }

again : (a : bpf_insn) (b : Option bpf_insn) (high : ℤ) → a.registers < 2 ^ 8 → IsSecond (a.code == 0x18) b high → instruction_of (parts_with a high) ≡ whole a b
again a b high few h =
    ap (λ first. record { first = first; second = second_slot_of (parts_with a high) }) (first_again a high few)
    ∙ ap (λ second. record { first = a; second = second }) (second_is (a.code == 0x18) b high h)

map_some : {A B : Type 0} (f : A → B) (o : Option A) (y : B) → option_map f o ≡ Some y → (x : A) × (o ≡ Some x) × (f x ≡ y)
map_some f None y h = cc
map_some f (Some x) y h = (x, refl, cc (h))

with_fits : (a : bpf_insn) (high : ℤ) → IsSlot a → FitsSigned w32 high → IsParts (parts_with a high)
with_fits a high s h =
    let few = s.registers in
    record {
      destination = omega arith;
      source = omega arith;
      offset = s.off;
      immediate = s.imm;
      high = h;
    }

pub parts_again : (a : bpf_insn) (b : Option bpf_insn) (p : Parts) → IsSlot a → IfSome b IsSlot → parts_of a b ≡ Some p → IsParts p × (instruction_of p ≡ whole a b)
parts_again a b p s t h =
    let m = map_some (parts_with a) (high_of a b) p h in
    let k = high_cases (a.code == 0x18) b m.0 t m.1 in
    (subst IsParts m.2 (with_fits a m.0 s k.0), sym (ap instruction_of m.2) ∙ again a b m.0 s.registers k.1)

-- Instructions with and without a form.

-- An instruction of a form.
pub record HasForm (a : bpf_insn) (b : Option bpf_insn) (p : Parts) (f : Form) : Type 0 where
  pub fits : IsParts p
  pub member : IsIn f forms
  pub same : filled (pieces_of f) p (fields_of f) ≡ p
  pub text : text_of a b ≡ rendered (pieces_of f) p
  pub taken : taken a b ≡ instruction_of p

abbrev pub raw : bpf_insn → Instruction
raw a = record { first = a; second = None }

pub record HasNone (a : bpf_insn) (b : Option bpf_insn) : Type 0 where
  pub text : text_of a b ≡ byte_text (bytes_of a)
  pub taken : taken a b ≡ raw a

abbrev pub View : bpf_insn → Option bpf_insn → Type 0
View a b = ((p : Parts) × (f : Form) × HasForm a b p f) ⊎ HasNone a b

with_form : (a : bpf_insn) (b : Option bpf_insn) (p : Parts) (f : Form) → IsSlot a → IfSome b IsSlot → parts_of a b ≡ Some p → form_for p ≡ Some f → HasForm a b p f
with_form a b p f s t h k =
    let g = parts_again a b p s t h in
    let m = found_in p f forms k in
    let u = four (p.code == f.code) (nat_le p.destination 10) (nat_le p.source 10) (are_same (filled (pieces_of f) p (fields_of f)) p) m.1 in
    record {
      fits = g.0;
      member = m.0;
      same = same_parts (filled (pieces_of f) p (fields_of f)) p u.3;
      text = ap (text_from a) h ∙ ap (text_by a p) k;
      taken =
          ap (λ o. record { first = a; second = second_from a b o }) h
          ∙ ap (λ o. record { first = a; second = second_by a b o }) k
          ∙ sym g.1;
    }

pub view : (a : bpf_insn) (b : Option bpf_insn) → IsSlot a → IfSome b IsSlot → View a b
view a b s t = by_parts (parts_of a b) refl
  where
    by_form : (p : Parts) (o : Option Form) → parts_of a b ≡ Some p → form_for p ≡ o → View a b
    by_form p None h k = inr (record {
      text = ap (text_from a) h ∙ ap (text_by a p) k;
      taken = ap (λ o. record { first = a; second = second_from a b o }) h ∙ ap (λ o. record { first = a; second = second_by a b o }) k;
    })
    by_form p (Some f) h k = inl (p, f, with_form a b p f s t h k)

    by_parts : (o : Option Parts) → parts_of a b ≡ o → View a b
    by_parts None h = inr (record {
      text = ap (text_from a) h;
      taken = ap (λ o. record { first = a; second = second_from a b o }) h;
    })
    by_parts (Some p) h = by_form p (form_for p) h refl

-- The instruction in two slots, taken again from its slots, is the same.

-- The second slot that is taken, by a test of the code and by the high half.
abbrev parts_by : bpf_insn → Bool → Option bpf_insn → Option Parts
parts_by a v b = option_map (parts_with a) (cond v (high_in b) (Some (pos 0)))

abbrev second_if : Bool → Option bpf_insn → Option Form → Option bpf_insn
second_if v b None = None
second_if v b (Some f) = cond v b None

abbrev second_for : Bool → Option bpf_insn → Option Parts → Option bpf_insn
second_for v b None = None
second_for v b (Some p) = second_if v b (form_for p)

abbrev Settles : bpf_insn → Bool → Option bpf_insn → Option bpf_insn → List ℕ → Type 0
Settles a v b second text =
    (text_from a (parts_by a v second) ≡ text) × (second_for v second (parts_by a v second) ≡ second)

none_taken : (b c : Option bpf_insn) (o : Option Form) → second_if false b o ≡ second_if false c o
none_taken b c None = refl
none_taken b c (Some f) = refl

settled_high : (a : bpf_insn) (b : Option bpf_insn) (high : ℤ) (o : Option Form) → high_in b ≡ Some high → form_for (parts_with a high) ≡ o → Settles a true b (second_if true b o) (text_by a (parts_with a high) o)
settled_high a b high None h k = (refl, refl)
settled_high a b high (Some f) h k = (
  ap (λ o. text_from a (option_map (parts_with a) o)) h ∙ ap (text_by a (parts_with a high)) k,
  ap (λ o. second_for true b (option_map (parts_with a) o)) h ∙ ap (second_if true b) k,
)

settled_wide : (a : bpf_insn) (b : Option bpf_insn) (o : Option ℤ) → high_in b ≡ o → Settles a true b (second_for true b (option_map (parts_with a) o)) (text_from a (option_map (parts_with a) o))
settled_wide a b None h = (refl, refl)
settled_wide a b (Some high) h = settled_high a b high (form_for (parts_with a high)) h refl

settled_by : (a : bpf_insn) (b : Option bpf_insn) (v : Bool) → Settles a v b (second_for v b (parts_by a v b)) (text_from a (parts_by a v b))
settled_by a b true = settled_wide a b (high_in b) refl
settled_by a b false =
    (refl, none_taken (second_for false b (parts_by a false b)) b (form_for (parts_with a (pos 0))))

-- The two definitions of the taken slot are equal.
same_second : (a : bpf_insn) (b : Option bpf_insn) (o : Option Form) → second_by a b o ≡ second_if (a.code == 0x18) b o
same_second a b None = refl
same_second a b (Some f) = refl

same_for : (a : bpf_insn) (b : Option bpf_insn) (o : Option Parts) → second_from a b o ≡ second_for (a.code == 0x18) b o
same_for a b None = refl
same_for a b (Some p) = same_second a b (form_for p)

pub settled_text : (a : bpf_insn) (b : Option bpf_insn) → text_of a (taken a b).second ≡ text_of a b
settled_text a b =
    ap (text_of a) (same_for a b (parts_of a b)) ∙ (settled_by a b (a.code == 0x18)).0

settled_second : (a : bpf_insn) (b : Option bpf_insn) → (taken a (taken a b).second).second ≡ (taken a b).second
settled_second a b =
    let v = a.code == 0x18 in
    let e = same_for a b (parts_of a b) in
    ap (λ t. second_from a t (parts_of a t)) e
    ∙ same_for a (second_for v b (parts_of a b)) (parts_of a (second_for v b (parts_of a b)))
    ∙ (settled_by a b v).1
    ∙ sym e

pub settled : (a : bpf_insn) (b : Option bpf_insn) → taken a (taken a b).second ≡ taken a b
settled a b = ap (λ t. record { first = a; second = t }) (settled_second a b)

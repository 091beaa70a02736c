-- Different instructions have different texts, and reading a text gives its instruction.
use Rattle.std.proofs.Common.{◌≡◌, ℕ, Bool, true, false, not, cond, List, [], ◌∷◌, Option, Some, None, refl, ap, sym, ◌∙◌, arith, subst, inl, inr}
use Rattle.std.specs.Prelude.{◌==◌, ◌&&◌, nat_lt, bytes_eq, IfSome, option_map}
use Rattle.std.proofs.lemmas.Bool.Decides.{nat_tests}
use Rattle.std.proofs.lemmas.Slice.Eq.{bytes_eq-Decides}
use Rattle.ebpf_items.specs.declared.instruction.bpf_insn.{bpf_insn}
use Rattle.ebpf_items.specs.Instruction.{bytes_of}
use Rattle.instruction_text.specs.declared.instruction.Instruction.{Instruction}
use Rattle.instruction_text.specs.declared.parts.Parts.{Parts}
use Rattle.instruction_text.specs.declared.piece.Piece.{Piece}
use Rattle.instruction_text.specs.declared.piece.Piece.TheVariants.{Mark, Number}
use Rattle.instruction_text.specs.Forms.{Form, forms}
use Rattle.instruction_text.specs.Laws.{IsSlot, IsTextOf}
use Rattle.instruction_text.specs.Reading.{checked, checked_option, instruction_in, instruction_of, is_digit, is_sign, or_else, read_bytes, read_form, read_in, read_pieces, state}
use Rattle.instruction_text.specs.Texts.{byte_text, fields_of, pieces_of, rendered, taken, text_of}
use Rattle.instruction_text.proofs.FormTable.{IsIn, all_good, forms_good, forms_distinct, good_in, is_good, is_ranged, key, key_from, one_form, starts}
use Rattle.instruction_text.proofs.Instructions.{HasForm, HasNone, View, raw, settled, settled_text, view}
use Rattle.instruction_text.proofs.Ranges.{IsInstruction, form_fits}
use Rattle.instruction_text.proofs.Shapes.{ascii, both, introduces, is_regular, pieces_open, shape, shape_of, text_read, text_shape, three}
use Rattle.instruction_text.proofs.SlotBytes.{slot_read}

-- Equal texts have equal instructions.

abbrev read_by : Form → List ℕ → Option Parts
read_by f text = read_pieces (pieces_of f) (state text (fields_of f))

regular_in : (f : Form) → IsIn f forms → is_regular false (pieces_of f) ≡ true
regular_in f m = (both (is_regular false (pieces_of f)) (starts (pieces_of f) && is_ranged f) (good_in f forms forms_good m)).0

starts_in : (f : Form) → IsIn f forms → starts (pieces_of f) ≡ true
starts_in f m =
    (both (starts (pieces_of f)) (is_ranged f) (both (is_regular false (pieces_of f)) (starts (pieces_of f) && is_ranged f) (good_in f forms forms_good m)).1).0

form_read : (a : bpf_insn) (b : Option bpf_insn) (p : Parts) (f : Form) → HasForm a b p f → read_by f (text_of a b) ≡ Some p
form_read a b p f x =
    ap (read_by f) x.text ∙ text_read false (pieces_of f) p (fields_of f) x.fits (regular_in f x.member) ∙ ap Some x.same

form_shape : (a : bpf_insn) (b : Option bpf_insn) (p : Parts) (f : Form) → HasForm a b p f → shape false (text_of a b) ≡ shape_of false (pieces_of f)
form_shape a b p f x = ap (shape false) x.text ∙ text_shape false (pieces_of f) p x.fits (regular_in f x.member)

some_is : {A : Type 0} (x y : A) → Some x ≡ Some y → x ≡ y
some_is x y h = cc (h)

one_by_forms : (a : bpf_insn) (b : Option bpf_insn) (p : Parts) (f : Form) (c : bpf_insn) (d : Option bpf_insn) (q : Parts) (g : Form) → HasForm a b p f → HasForm c d q g → text_of a b ≡ text_of c d → taken a b ≡ taken c d
one_by_forms a b p f c d q g x y e =
    let keys : key f ≡ key g = ap (key_from 1) (sym (form_shape a b p f x) ∙ ap (shape false) e ∙ form_shape c d q g y) in
    let same : f ≡ g = one_form f g forms forms_distinct x.member y.member keys in
    let parts : p ≡ q =
    some_is p q (sym (form_read a b p f x) ∙ ap (read_by f) e ∙ ap (λ h. read_by h (text_of c d)) same ∙ form_read c d q g y) in
    x.taken ∙ ap instruction_of parts ∙ sym y.taken

not_dot : (c : ℕ) (cs ds : List ℕ) → c ∷ cs ≡ 46 ∷ ds → not (c == 46) ≡ true → ⊥
not_dot c cs ds e h = let same : c ≡ 46 = cc (e) in grind (arith, nat_tests)

no_dot : (ps : List Piece) (p : Parts) (ds : List ℕ) → is_regular false ps ≡ true → starts ps ≡ true → rendered ps p ≡ 46 ∷ ds → ⊥
no_dot [] p ds r h e = cc
no_dot (Mark c ∷ ps) p ds r h e =
    let t = three (nat_lt c 128) (not (is_sign c && pieces_open ps)) (is_regular (cond (is_digit c) false (introduces c)) ps) r in
    not_dot c (rendered ps p) ds (sym (ascii c (rendered ps p) t.0) ∙ e) h
no_dot (Number field style ∷ ps) p ds r h e = cc

dot_first : (a : bpf_insn) → (ds : List ℕ) × (byte_text (bytes_of a) ≡ 46 ∷ ds)
unfolding byte_text
dot_first a = (_, refl)

form_not_raw : (a : bpf_insn) (b : Option bpf_insn) (p : Parts) (f : Form) (c : bpf_insn) (d : Option bpf_insn) → HasForm a b p f → HasNone c d → text_of a b ≡ text_of c d → ⊥
form_not_raw a b p f c d x y e =
    let t = dot_first c in
    no_dot (pieces_of f) p t.0 (regular_in f x.member) (starts_in f x.member) (sym x.text ∙ e ∙ y.text ∙ t.1)

one_by_bytes : (a : bpf_insn) (b : Option bpf_insn) (c : bpf_insn) (d : Option bpf_insn) → IsSlot a → IsSlot c → HasNone a b → HasNone c d → text_of a b ≡ text_of c d → taken a b ≡ taken c d
one_by_bytes a b c d s t x y e =
    x.taken ∙ some_is (raw a) (raw c) (sym (slot_read a s) ∙ ap read_bytes (sym x.text ∙ e ∙ y.text) ∙ slot_read c t) ∙ sym y.taken

pub one_instruction : (a : bpf_insn) (b : Option bpf_insn) (c : bpf_insn) (d : Option bpf_insn) → IsSlot a → IfSome b IsSlot → IsSlot c → IfSome d IsSlot → text_of a b ≡ text_of c d → taken a b ≡ taken c d
one_instruction a b c d s t u v e = by_views (view a b s t) (view c d u v)
  where
    by_views : View a b → View c d → taken a b ≡ taken c d
    by_views (inl x) (inl y) = one_by_forms a b x.0 x.1 c d y.0 y.1 x.2 y.2 e
    by_views (inl x) (inr y) = absurd (form_not_raw a b x.0 x.1 c d x.2 y e)
    by_views (inr x) (inl y) = absurd (form_not_raw c d y.0 y.1 a b y.2 x (sym e))
    by_views (inr x) (inr y) = one_by_bytes a b c d s u x y e

-- Reading.

bytes_same : (xs ys : List ℕ) → xs ≡ ys → bytes_eq xs ys ≡ true
bytes_same xs ys e = (bytes_eq-Decides xs ys).1 e

bytes_are : (xs ys : List ℕ) → bytes_eq xs ys ≡ true → xs ≡ ys
bytes_are xs ys h = (bytes_eq-Decides xs ys).0 h

abbrev IsOnly : Instruction → Option Instruction → Type 0
IsOnly i o = IfSome o (λ j. j ≡ i)

-- Any instruction that is read from an instruction's text is that instruction.
checked_only : (a : bpf_insn) (b : Option bpf_insn) → IsSlot a → IfSome b IsSlot → (o : Option Instruction) → IfSome o IsInstruction → IsOnly (taken a b) (checked_option (text_of a b) o)
checked_only a b s t None f = tt
checked_only a b s t (Some i) f = by_test (bytes_eq (text_of i.first i.second) (text_of a b)) refl
  where
    by_test : (v : Bool) → bytes_eq (text_of i.first i.second) (text_of a b) ≡ v → IsOnly (taken a b) (cond v (Some (taken i.first i.second)) None)
    by_test true e = one_instruction i.first i.second a b f.0 f.1 s t (bytes_are (text_of i.first i.second) (text_of a b) e)
    by_test false e = tt

either_only : (i : Instruction) (o r : Option Instruction) → IsOnly i o → IsOnly i r → IsOnly i (or_else o r)
either_only i None r h k = k
either_only i (Some j) r h k = h

ranged_first : (f : Form) (fs : List Form) → all_good (f ∷ fs) ≡ true → is_ranged f ≡ true
ranged_first f fs h =
    (both (starts (pieces_of f)) (is_ranged f) (both (is_regular false (pieces_of f)) (starts (pieces_of f) && is_ranged f) (both (is_good f) (all_good fs) h).0).1).1

first_only : (a : bpf_insn) (b : Option bpf_insn) → IsSlot a → IfSome b IsSlot → (f : Form) (fs : List Form) → all_good (f ∷ fs) ≡ true → IsOnly (taken a b) (checked_option (text_of a b) (read_form f (text_of a b)))
first_only a b s t f fs h =
    checked_only a b s t (read_form f (text_of a b)) (form_fits f (text_of a b) (ranged_first f fs h))

all_only : (a : bpf_insn) (b : Option bpf_insn) → IsSlot a → IfSome b IsSlot → (fs : List Form) → all_good fs ≡ true → IsOnly (taken a b) (read_in fs (text_of a b))
all_only a b s t [] h = tt
all_only a b s t (f ∷ fs) h =
    either_only (taken a b) (checked_option (text_of a b) (read_form f (text_of a b))) (read_in fs (text_of a b)) (first_only a b s t f fs h) (all_only a b s t fs (both (is_good f) (all_good fs) h).1)

-- The instruction is read from its own text.
checked_again : (a : bpf_insn) (b : Option bpf_insn) → checked (text_of a b) (taken a b) ≡ Some (taken a b)
checked_again a b =
    ap (λ v. cond v (Some (taken a (taken a b).second)) None) (bytes_same (text_of a (taken a b).second) (text_of a b) (settled_text a b))
    ∙ ap Some (settled a b)

checked_form : (a : bpf_insn) (b : Option bpf_insn) (p : Parts) (f : Form) → HasForm a b p f → checked_option (text_of a b) (read_form f (text_of a b)) ≡ Some (taken a b)
checked_form a b p f x =
    ap (λ o. checked_option (text_of a b) (option_map instruction_of o)) (form_read a b p f x)
    ∙ ap (checked (text_of a b)) (sym x.taken)
    ∙ checked_again a b

checked_raw : (a : bpf_insn) (b : Option bpf_insn) → IsSlot a → HasNone a b → checked_option (text_of a b) (read_bytes (text_of a b)) ≡ Some (taken a b)
checked_raw a b s x =
    ap (checked_option (text_of a b)) (ap read_bytes x.text ∙ slot_read a s)
    ∙ ap (checked (text_of a b)) (sym x.taken)
    ∙ checked_again a b

or_first : (i : Instruction) (o r : Option Instruction) → o ≡ Some i → or_else o r ≡ Some i
or_first i o r h = ap (λ o. or_else o r) h

or_last : (i : Instruction) (o r : Option Instruction) → IsOnly i o → r ≡ Some i → or_else o r ≡ Some i
or_last i None r h k = k
or_last i (Some j) r h k = ap Some h

found : (a : bpf_insn) (b : Option bpf_insn) (p : Parts) (f : Form) → IsSlot a → IfSome b IsSlot → HasForm a b p f → (fs : List Form) → all_good fs ≡ true → IsIn f fs → read_in fs (text_of a b) ≡ Some (taken a b)
found a b p f s t x [] h m = absurd m
found a b p f s t x (g ∷ gs) h (inl e) =
    or_first (taken a b) (checked_option (text_of a b) (read_form g (text_of a b))) (read_in gs (text_of a b)) (ap (λ g. checked_option (text_of a b) (read_form g (text_of a b))) (sym e) ∙ checked_form a b p f x)
found a b p f s t x (g ∷ gs) h (inr m) =
    or_last (taken a b) (checked_option (text_of a b) (read_form g (text_of a b))) (read_in gs (text_of a b)) (first_only a b s t g gs h) (found a b p f s t x gs (both (is_good g) (all_good gs) h).1 m)

pub read_back : (a : bpf_insn) (b : Option bpf_insn) → IsSlot a → IfSome b IsSlot → instruction_in (text_of a b) ≡ Some (taken a b)
read_back a b s t = by_view (view a b s t)
  where
    by_view : View a b → instruction_in (text_of a b) ≡ Some (taken a b)
    by_view (inl x) =
        or_first (taken a b) (read_in forms (text_of a b)) (checked_option (text_of a b) (read_bytes (text_of a b))) (found a b x.0 x.1 s t x.2 forms forms_good x.2.member)
    by_view (inr x) =
        or_last (taken a b) (read_in forms (text_of a b)) (checked_option (text_of a b) (read_bytes (text_of a b))) (all_only a b s t forms forms_good) (checked_raw a b s x)

-- The instruction that is read.

checked_is : (text : List ℕ) (o : Option Instruction) → IfSome (checked_option text o) (IsTextOf text)
checked_is text None = tt
checked_is text (Some i) = by_test (bytes_eq (text_of i.first i.second) text) refl
  where
    by_test : (v : Bool) → bytes_eq (text_of i.first i.second) text ≡ v → IfSome (cond v (Some (taken i.first i.second)) None) (IsTextOf text)
    by_test true e = record {
      text = settled_text i.first i.second ∙ bytes_are (text_of i.first i.second) text e;
      whole = settled i.first i.second;
    }
    by_test false e = tt

either_is : (text : List ℕ) (o r : Option Instruction) → IfSome o (IsTextOf text) → IfSome r (IsTextOf text) → IfSome (or_else o r) (IsTextOf text)
either_is text None r h k = k
either_is text (Some i) r h k = h

all_are : (fs : List Form) (text : List ℕ) → IfSome (read_in fs text) (IsTextOf text)
all_are [] text = tt
all_are (f ∷ fs) text =
    either_is text (checked_option text (read_form f text)) (read_in fs text) (checked_is text (read_form f text)) (all_are fs text)

pub read_is : (text : List ℕ) → IfSome (instruction_in text) (IsTextOf text)
read_is text =
    either_is text (read_in forms text) (checked_option text (read_bytes text)) (all_are forms text) (checked_is text (read_bytes text))

pub result_is : (o : Option Instruction) (bytes text : List ℕ) → bytes ≡ text → o ≡ instruction_in bytes → IfSome o (IsTextOf text)
result_is o bytes text e h = subst (λ o. IfSome o (IsTextOf text)) (sym (h ∙ ap instruction_in e)) (read_is text)

pub result_again : (o : Option Instruction) (bytes text : List ℕ) → bytes ≡ text → o ≡ instruction_in bytes → (a : bpf_insn) (b : Option bpf_insn) → IsSlot a → IfSome b IsSlot → text ≡ text_of a b → o ≡ Some (taken a b)
result_again o bytes text e h a b s t k = h ∙ ap instruction_in (e ∙ k) ∙ read_back a b s t

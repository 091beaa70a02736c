-- The instructions of a program's slots.
use Rattle.std.proofs.Common.{IfOk, Ok, Err, Result, ◌≡◌, ℕ, ◌+◌, Bool, true, false, cond, List, [], ◌∷◌, ◌++◌, Option, Some, None, is_some, map, flat_map, refl, ap, sym, ◌∙◌, length, inl, inr, slice_get, append_assoc, arith}
use Rattle.std.proofs.lemmas.List.{map-append}
use Rattle.std.specs.Prelude.{◌⊎◌, ◌==◌}
use Rattle.ebpf_items.specs.declared.instruction.bpf_insn.{bpf_insn}
use Rattle.instruction_text.specs.declared.instruction.Instruction.{Instruction}
use Rattle.instruction_text.specs.Forms.{Form}
use Rattle.instruction_text.specs.Fields.{parts_of}
use Rattle.instruction_text.specs.Texts.{form_for, second_by, second_from, slot_count, taken}
use Rattle.code_listing.specs.declared.listed.ListedInstruction.{ListedInstruction}
use Rattle.code_listing.specs.Listing.{Shown, listing, own_slots, second_slots, shown, shown_at, slots_after}

-- The second slot of an instruction is none, or the slot after the first.
abbrev IsNoneOr : Option bpf_insn → Option bpf_insn → Type 0
IsNoneOr found second = (found ≡ None) ⊎ (found ≡ second)

by_form : (first : bpf_insn) (second : Option bpf_insn) (form : Option Form) → IsNoneOr (second_by first second form) second
by_form first second None = inl refl
by_form first second (Some form) = by_code (first.code == 0x18)
  where
    by_code : (b : Bool) → IsNoneOr (cond b second None) second
    by_code true = inr refl
    by_code false = inl refl

by_parts : (first : bpf_insn) (second : Option bpf_insn) (p : _) → IsNoneOr (second_from first second p) second
by_parts first second None = inl refl
by_parts first second (Some p) = by_form first second (form_for p)

pub second_is : (first : bpf_insn) (second : Option bpf_insn) → IsNoneOr (taken first second).second second
second_is first second = by_parts first second (parts_of first second)

pub none_second : (first : bpf_insn) → (taken first None).second ≡ None
none_second first = elim (second_is first None) [ inl e ↦ e | inr e ↦ e ]

more_slots : (at : ℕ) (first second : bpf_insn) (rest : List bpf_insn) (s : Option bpf_insn)
    → cond (is_some s) (listing (at + 2) rest) (listing (at + 1) (second ∷ rest))
    ≡ listing (at + cond (is_some s) 2 1) (slots_after s (first ∷ second ∷ rest))
more_slots at first second rest None = refl
more_slots at first second rest (Some slot) = refl

last_slot : (at : ℕ) (first : bpf_insn) (s : Option bpf_insn) → s ≡ None → listing (at + cond (is_some s) 2 1) (slots_after s (first ∷ [])) ≡ []
last_slot at first s none = rw none refl

-- The first instruction, and those after it.
first_and_more : (at : ℕ) (first : bpf_insn) (slots : List bpf_insn) (i : Instruction)
    → slice_get slots 0 ≡ Some first
    → i ≡ taken first (slice_get slots 1)
    → listing at slots ≡ shown_at at first (slice_get slots 1) ∷ listing (at + slot_count i) (slots_after i.second slots)
first_and_more at first [] i here is = absurd (let wrong = here in cc)
first_and_more at first (f ∷ []) i here is =
    let same : f ≡ first = cc in
    let none : i.second ≡ None = ap (λ (i : Instruction). i.second) is ∙ none_second first in
    ap (λ (l : List Shown). shown_at at f None ∷ l) (sym (last_slot at f i.second none))
    ∙ ap (λ (f' : bpf_insn). shown_at at f' None ∷ listing (at + slot_count i) (slots_after i.second (f ∷ []))) same
first_and_more at first (f ∷ second ∷ rest) i here is =
    let same : f ≡ first = cc in
    let is-second : (taken f (Some second)).second ≡ i.second = ap (λ (f' : bpf_insn). (taken f' (Some second)).second) same ∙ sym (ap (λ (i : Instruction). i.second) is) in
    ap (λ (l : List Shown). shown_at at f (Some second) ∷ l) (more_slots at f second rest (taken f (Some second)).second)
    ∙ ap (λ (s : Option bpf_insn). shown_at at f (Some second) ∷ listing (at + cond (is_some s) 2 1) (slots_after s (f ∷ second ∷ rest))) is-second
    ∙ ap (λ (f' : bpf_insn). shown_at at f' (Some second) ∷ listing (at + slot_count i) (slots_after i.second (f ∷ second ∷ rest))) same

-- One more instruction is listed.
pub one_listed : (old new : List ListedInstruction) (x : ListedInstruction) (at count : ℕ) (first : bpf_insn) (here left : List bpf_insn) (all : List Shown)
    → map shown old ++ listing at here ≡ all
    → slice_get here 0 ≡ Some first
    → shown x ≡ shown_at at first (slice_get here 1)
    → count ≡ slot_count x.instruction
    → left ≡ slots_after x.instruction.second here
    → new ≡ old ++ x ∷ []
    → map shown new ++ listing (at + count) left ≡ all
one_listed old new x at count first here left all before begins is counted leaves push =
    let same : x.instruction ≡ taken first (slice_get here 1) = ap (λ (s : Shown). s.instruction) is in
    let more : listing at here ≡ shown x ∷ listing (at + count) left =
    first_and_more at first here x.instruction begins same
    ∙ ap (λ (s : Shown). s ∷ listing (at + slot_count x.instruction) (slots_after x.instruction.second here)) (sym is)
    ∙ ap (λ (l : List bpf_insn). shown x ∷ listing (at + slot_count x.instruction) l) (sym leaves)
    ∙ ap (λ n. shown x ∷ listing (at + n) left) (sym counted) in
    ap (λ (l : List ListedInstruction). map shown l ++ listing (at + count) left) push
    ∙ ap (λ (l : List Shown). l ++ listing (at + count) left) (map-append shown old (x ∷ []))
    ∙ append_assoc (map shown old) (shown x ∷ []) (listing (at + count) left)
    ∙ ap (λ (l : List Shown). map shown old ++ l) (sym more)
    ∙ before

counted_left : (s : Option bpf_insn) (first second : bpf_insn) (rest : List bpf_insn) → cond (is_some s) 2 1 + length (slots_after s (first ∷ second ∷ rest)) ≡ 2 + length rest
counted_left None first second rest = omega arith
counted_left (Some slot) first second rest = omega arith

counted_last : (s : Option bpf_insn) (first : bpf_insn) → s ≡ None → cond (is_some s) 2 1 + length (slots_after s (first ∷ [])) ≡ 1
counted_last s first none = rw none refl

-- The number of an instruction's slots and of those after it.
pub count_of_left : (count : ℕ) (i : Instruction) (first : bpf_insn) (here left : List bpf_insn)
    → slice_get here 0 ≡ Some first
    → i ≡ taken first (slice_get here 1)
    → count ≡ slot_count i
    → left ≡ slots_after i.second here
    → count + length left ≡ length here
count_of_left count i first [] left begins is counted leaves = absurd (let wrong = begins in cc)
count_of_left count i first (f ∷ []) left begins is counted leaves =
    ap (λ n. n + length left) counted
    ∙ ap (λ (l : List bpf_insn). slot_count i + length l) leaves
    ∙ counted_last i.second f (ap (λ (i : Instruction). i.second) is ∙ none_second first)
count_of_left count i first (f ∷ second ∷ rest) left begins is counted leaves =
    ap (λ n. n + length left) counted
    ∙ ap (λ (l : List bpf_insn). slot_count i + length l) leaves
    ∙ counted_left i.second f second rest
    ∙ omega arith

slots_of_more : (at : ℕ) (second : bpf_insn) (rest : List bpf_insn) (s : Option bpf_insn) → IsNoneOr s (Some second)
    → flat_map own_slots (listing (at + 2) rest) ≡ rest
    → flat_map own_slots (listing (at + 1) (second ∷ rest)) ≡ second ∷ rest
    → second_slots s ++ flat_map own_slots (cond (is_some s) (listing (at + 2) rest) (listing (at + 1) (second ∷ rest))) ≡ second ∷ rest
slots_of_more at second rest s (inl e) two one = rw e one
slots_of_more at second rest s (inr e) two one = rw e (ap (λ (l : List bpf_insn). second ∷ l) two)

-- The slots of all instructions are those that are listed.
pub all_slots : (at : ℕ) (slots : List bpf_insn) → flat_map own_slots (listing at slots) ≡ slots
all_slots at [] = refl
all_slots at (first ∷ []) = ap (λ (s : Option bpf_insn). first ∷ (second_slots s ++ [])) (none_second first)
all_slots at (first ∷ second ∷ rest) =
    ap (λ (l : List bpf_insn). first ∷ l)
    (slots_of_more at second rest (taken first (Some second)).second (second_is first (Some second)) (all_slots (at + 2) rest) (all_slots (at + 1) (second ∷ rest)))

pub if_ok : {A E : Type 0} (P Q : A → Type 0) (r : Result A E) → ((a : A) → P a → Q a) → IfOk r P → IfOk r Q
if_ok P Q (Ok a) more holds = more a holds
if_ok P Q (Err e) more holds = holds

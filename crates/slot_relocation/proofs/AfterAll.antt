-- The slots of a function after some relocations, for any rule.
use Rattle.std.proofs.Common.{arith, ◌≡◌, ℕ, suc, ◌<◌, ◌≤◌, List, [], ◌∷◌, ◌++◌, Some, refl, sym, ap, ◌∙◌, append_assoc, length, length-append}
use Rattle.std.specs.Prelude.{slice_get, fold}
use Rattle.ebpf_items.specs.declared.instruction.bpf_insn.{bpf_insn}
use Rattle.object_parts.specs.Content.{FunctionContent}
use Rattle.slot_relocation.specs.declared.outcome.Write.{Write}
use Rattle.slot_relocation.specs.Writes.{RuleOf, after, after_all, after_one, outcome_at, index_of_slot}
use Rattle.slot_relocation.specs.WriteLaws.{IsWritten, LengthsRemain, Makes, OneWrites, Puts, UnwrittenStay}
use Rattle.slot_relocation.proofs.Walk.{fold_more}
use Rattle.slot_relocation.proofs.Writing.{long_all, put_here, stays_at}

-- ---- Slots that no relocation writes

-- The relocations from an index on leave a slot unchanged if none of them writes it.
rest_stays : {A E : Type 0} (rule : RuleOf A E) (f : FunctionContent) (rs : List (ℕ × A)) (i n : ℕ) (before rest : List (ℕ × A)) (slots : List bpf_insn) → before ++ rest ≡ rs → slots ≡ after_all rule f before → n ≤ length before → ((o : IsWritten rule f rs i) → n ≤ length o.made.before → ⊥) → slice_get (fold (after_one rule f) slots rest) i ≡ slice_get slots i
rest_stays rule f rs i n before [] slots split is long never = refl
rest_stays rule f rs i n before (r ∷ rest) slots split is long never =
    let more : n ≤ length (before ++ (r ∷ [])) = let e = length-append before (r ∷ []) in omega (arith, e, long) in
    rest_stays rule f rs i n (before ++ (r ∷ [])) rest (after_one rule f slots r) (append_assoc before (r ∷ []) rest ∙ split) (ap (λ s. after_one rule f s r) is ∙ sym (fold_more (after_one rule f) f.instructions before r)) more never
    ∙ stays_at rule f slots r i (λ w made at. never (record {
      relocation = r;
      write = w;
      made = record { before = before; rest = rest; split = split; outcome = ap (λ s. outcome_at rule f s r) (sym is) ∙ made };
      at = at;
    }) long)

pub unwritten : {A E : Type 0} (rule : RuleOf A E) (f : FunctionContent) (rs : List (ℕ × A)) (i : ℕ) → (IsWritten rule f rs i → ⊥) → slice_get (after_all rule f rs) i ≡ slice_get f.instructions i
unwritten rule f rs i never = rest_stays rule f rs i 0 [] rs f.instructions refl refl (omega arith) (λ o long. never o)

pub unwritten_stay : (A E : Type 0) → UnwrittenStay A E
unwritten_stay A E = record { each = unwritten }

-- ---- Slots that exactly one relocation writes

pub after_split : {A E : Type 0} (rule : RuleOf A E) (f : FunctionContent) (slots : List bpf_insn) (before : List (ℕ × A)) (r : ℕ × A) (rest : List (ℕ × A)) → fold (after_one rule f) slots (before ++ (r ∷ rest)) ≡ fold (after_one rule f) (after_one rule f (fold (after_one rule f) slots before) r) rest
after_split rule f slots [] r rest = refl
after_split rule f slots (b ∷ before) r rest = after_split rule f (after_one rule f slots b) before r rest

longer : {A : Type 0} (a b : List A) → suc (length a) ≤ length b → b ≡ a → ⊥
longer a b long same = let e = ap length same in omega (arith, e, long)

one : {A E : Type 0} (rule : RuleOf A E) (f : FunctionContent) (rs : List (ℕ × A)) (r : ℕ × A) (w : Write) (place : ℕ) (s : bpf_insn) → (m : Makes rule f rs r w) → Puts (index_of_slot f r.0) w place s → place < length f.instructions → ((o : IsWritten rule f rs place) → o.made.before ≡ m.before) → slice_get (after_all rule f rs) place ≡ Some s
one rule f rs r w place s m puts within only =
    let slots = after_all rule f m.before in
    let there : place < length slots = let e = long_all rule f f.instructions m.before in omega (arith, e, within) in
    let more : suc (length m.before) ≤ length (m.before ++ (r ∷ [])) = let e = length-append m.before (r ∷ []) in omega (arith, e) in
    ap (λ l. slice_get (after_all rule f l) place) (sym m.split)
    ∙ ap (λ l. slice_get l place) (after_split rule f f.instructions m.before r m.rest)
    ∙ rest_stays rule f rs place (suc (length m.before)) (m.before ++ (r ∷ [])) m.rest (after_one rule f slots r) (append_assoc m.before (r ∷ []) m.rest ∙ m.split) (sym (fold_more (after_one rule f) f.instructions m.before r)) more (λ o long. longer m.before o.made.before long (only o))
    ∙ ap (λ o. slice_get (after slots (index_of_slot f r.0) o) place) m.outcome
    ∙ put_here slots (index_of_slot f r.0) w place s puts there

pub one_writes : (A E : Type 0) → OneWrites A E
one_writes A E = record { each = one }

-- ---- The number of slots

pub lengths_remain : (A E : Type 0) → LengthsRemain A E
lengths_remain A E = record { each = λ rule f rs. long_all rule f f.instructions rs }

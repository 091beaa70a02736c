-- Relocations that are made one after the other.
use Rattle.std.proofs.Common.{◌≡◌, ℕ, ◌+◌, ◌<◌, length, take, drop, get_or, add-one, drop-cons, Bool, true, false, not, List, [], ◌∷◌, ◌++◌, Option, Some, None, refl, sym, ap, ◌∙◌, subst, inl, inr, append-nil, cond}
use Rattle.std.specs.Prelude.{◌&&◌, fold, map, filter}
use Rattle.std.proofs.lemmas.List.Elements.{filter-append}
use Rattle.std.specs.Map.{values_of}
use Rattle.ebpf_items.specs.declared.instruction.bpf_insn.{bpf_insn}
use Rattle.object_parts.specs.Content.{FunctionContent}
use Rattle.object_parts.specs.Geometry.{is_inside}
use Rattle.relocation_errors.specs.declared.error.RelocationError.{RelocationError}
use Rattle.slot_relocation.specs.declared.outcome.Fault.{Fault}
use Rattle.slot_relocation.specs.declared.outcome.Outcome.TheVariants.{Refused}
use Rattle.slot_relocation.specs.declared.rule.Refusal.{Refusal}
use Rattle.slot_relocation.specs.declared.rule.Refusal.TheVariants as refusal
use Rattle.slot_relocation.specs.declared.driver.FaultAt.{FaultAt}
use Rattle.slot_relocation.specs.declared.driver.Stop.{Stop}
use Rattle.slot_relocation.specs.declared.driver.Stop.TheVariants as stop
use Rattle.slot_relocation.specs.Writes.{AreFaultless, HasErrorIn, HasFaultAmong, HasFaultInside, IsErrorOf, Rule, RuleOf, after_all, after_one, outcome_at, relocations_inside}
use Rattle.slot_relocation.specs.Walks.{AllSound, AreWalked, IsErrorFor, IsFaultAt, IsFaultIn, IsRefusal, IsRefusalOf, IsStop, are_sound, changed, first_of, is_refused, is_sound}

abbrev pub Entry : Type 0
Entry = (ℕ × ℕ) × FunctionContent

pub fold_more : {A B : Type 0} (g : B → A → B) (b : B) (xs : List A) (x : A) → fold g b (xs ++ (x ∷ [])) ≡ g (fold g b xs) x
fold_more g b [] x = refl
fold_more g b (y ∷ xs) x = fold_more g (g b y) xs x

pub after_more : {A E : Type 0} (rule : RuleOf A E) (f : FunctionContent) (done : List (ℕ × A)) (r : ℕ × A) (old new : List bpf_insn) → old ≡ after_all rule f done → new ≡ after_one rule f old r → new ≡ after_all rule f (done ++ (r ∷ []))
after_more rule f done r old new h e = e ∙ ap (λ s. after_one rule f s r) h ∙ sym (fold_more (after_one rule f) f.instructions done r)

both_true : (a b : Bool) → (a && b) ≡ true → (a ≡ true) × (b ≡ true)
both_true true true h = (refl, refl)
both_true true false h = absurd (cc)
both_true false b h = absurd (cc)

true_both : (a b : Bool) → a ≡ true → b ≡ true → (a && b) ≡ true
true_both true true h k = refl
true_both true false h k = k
true_both false b h k = h

sound_from : {A E : Type 0} (rule : RuleOf A E) (f : FunctionContent) (slots : List bpf_insn) (done : List (ℕ × A)) (r : ℕ × A) → are_sound rule f slots done ≡ true → is_refused (outcome_at rule f (fold (after_one rule f) slots done) r) ≡ false → are_sound rule f slots (done ++ (r ∷ [])) ≡ true
sound_from rule f slots [] r h e = true_both (not (is_refused (outcome_at rule f slots r))) true (ap not e) refl
sound_from rule f slots (d ∷ done) r h e =
    let both = both_true (not (is_refused (outcome_at rule f slots d))) (are_sound rule f (after_one rule f slots d) done) h in
    true_both (not (is_refused (outcome_at rule f slots d))) (are_sound rule f (after_one rule f slots d) (done ++ (r ∷ []))) both.0 (sound_from rule f (after_one rule f slots d) done r both.1 e)

pub sound_more : {A E : Type 0} (rule : RuleOf A E) (f : FunctionContent) (done : List (ℕ × A)) (r : ℕ × A) (old : List bpf_insn) → old ≡ after_all rule f done → are_sound rule f f.instructions done ≡ true → is_refused (outcome_at rule f old r) ≡ false → are_sound rule f f.instructions (done ++ (r ∷ [])) ≡ true
sound_more rule f done r old e h s = sound_from rule f f.instructions done r h (ap (λ l. is_refused (outcome_at rule f l r)) (sym e) ∙ s)

-- A relocation that is refused is a fault of its function.
pub refused_at : {A E : Type 0} (rule : RuleOf A E) (rs : List (ℕ × A)) (f : FunctionContent) (done : List (ℕ × A)) (r : ℕ × A) (rest : List (ℕ × A)) (old : List bpf_insn) (e : Refusal E) → done ++ (r ∷ rest) ≡ rs → old ≡ after_all rule f done → IsRefusalOf r.0 (outcome_at rule f old r) e → IsRefusal rule rs f e
refused_at rule rs f done r rest old (refusal.Fault o cause) split h is =
    (done, r, rest, split, sym is.0, ap (λ l. outcome_at rule f l r) (sym h) ∙ is.1)
refused_at rule rs f done r rest old refusal.OutOfMemory split h is = tt

-- Relocations that aren't inside a function are skipped.
pub kept_more : {A : Type 0} (p : ℕ × A → Bool) (done : List (ℕ × A)) (r : ℕ × A) → p r ≡ true → filter p (done ++ (r ∷ [])) ≡ filter p done ++ (r ∷ [])
kept_more p done r h = filter-append p done (r ∷ []) ∙ ap (λ b. filter p done ++ cond b (r ∷ []) []) h

pub left_out : {A : Type 0} (p : ℕ × A → Bool) (done : List (ℕ × A)) (r : ℕ × A) → p r ≡ false → filter p (done ++ (r ∷ [])) ≡ filter p done
left_out p done r h = filter-append p done (r ∷ []) ∙ ap (λ b. filter p done ++ cond b (r ∷ []) []) h ∙ append-nil (filter p done)

pub kept_rest : {A : Type 0} (p : ℕ × A → Bool) (done : List (ℕ × A)) (r : ℕ × A) (rest : List (ℕ × A)) → p r ≡ true → filter p (done ++ (r ∷ rest)) ≡ filter p done ++ (r ∷ filter p rest)
kept_rest p done r rest h = filter-append p done (r ∷ rest) ∙ ap (λ b. filter p done ++ cond b (r ∷ filter p rest) (filter p rest)) h

pub refused_inside : {A E : Type 0} (rule : RuleOf A E) (all : List (ℕ × A)) (f : FunctionContent) (done : List (ℕ × A)) (r : ℕ × A) (rest : List (ℕ × A)) (old : List bpf_insn) (e : Refusal E) → done ++ (r ∷ rest) ≡ all → is_inside f r.0 ≡ true → old ≡ after_all rule f (filter (λ x. is_inside f x.0) done) → IsRefusalOf r.0 (outcome_at rule f old r) e → IsRefusal rule (filter (λ x. is_inside f x.0) all) f e
refused_inside rule all f done r rest old e split inside h is =
    refused_at rule (filter (λ x. is_inside f x.0) all) f (filter (λ x. is_inside f x.0) done) r (filter (λ x. is_inside f x.0) rest) old e (sym (kept_rest (λ x. is_inside f x.0) done r rest inside) ∙ ap (filter (λ x. is_inside f x.0)) split) h is

-- If no relocation is refused, no fault holds.
no_refusal : {A E : Type 0} (rule : RuleOf A E) (f : FunctionContent) (slots : List bpf_insn) (before : List (ℕ × A)) (r : ℕ × A) (rest : List (ℕ × A)) (cause : E) → are_sound rule f slots (before ++ (r ∷ rest)) ≡ true → outcome_at rule f (fold (after_one rule f) slots before) r ≡ Refused cause → ⊥
no_refusal rule f slots [] r rest cause h e =
    let both = both_true (not (is_refused (outcome_at rule f slots r))) (are_sound rule f (after_one rule f slots r) rest) h in
    let is : not (is_refused (outcome_at rule f slots r)) ≡ false = ap (λ o. not (is_refused o)) e in
    cc
no_refusal rule f slots (b ∷ before) r rest cause h e =
    let both = both_true (not (is_refused (outcome_at rule f slots b))) (are_sound rule f (after_one rule f slots b) (before ++ (r ∷ rest))) h in
    no_refusal rule f (after_one rule f slots b) before r rest cause both.1 e

no_fault : {A E : Type 0} (rule : RuleOf A E) (rs : List (ℕ × A)) (f : FunctionContent) (offset : ℕ) (cause : E) → is_sound rule rs f ≡ true → HasFaultAmong rule f rs offset cause → ⊥
no_fault rule rs f offset cause h stands =
    no_refusal rule f f.instructions stands.0 stands.1 stands.2 cause (ap (are_sound rule f f.instructions) stands.3 ∙ h) stands.5

none_in : {A E : Type 0} (rule : RuleOf A E) (inside : FunctionContent → List (ℕ × A)) (es : List Entry) → AllSound rule inside es → HasFaultInside rule inside es → ⊥
none_in rule inside [] h stands = stands
none_in rule inside (g ∷ gs) h (inl stands) = no_fault rule (inside g.1) g.1 stands.0 stands.1 h.0 stands.2
none_in rule inside (g ∷ gs) h (inr stands) = none_in rule inside gs h.1 stands

pub can_be : {A E : Type 0} (rule : RuleOf A E) (inside : FunctionContent → List (ℕ × A)) (es : List Entry) → AllSound rule inside es → AreFaultless rule inside es
can_be rule inside es h = record { none = none_in rule inside es h }

-- The functions one after the other.
sound_all : {A E : Type 0} (rule : RuleOf A E) (inside : FunctionContent → List (ℕ × A)) (done : List Entry) (e : Entry) → AllSound rule inside done → is_sound rule (inside e.1) e.1 ≡ true → AllSound rule inside (done ++ (e ∷ []))
sound_all rule inside [] e h s = (s, tt)
sound_all rule inside (d ∷ done) e h s = (h.0, sound_all rule inside done e h.1 s)

values_more : {A E : Type 0} (rule : RuleOf A E) (inside : FunctionContent → List (ℕ × A)) (done : List Entry) (e : Entry) → map (changed rule inside) (values_of (done ++ (e ∷ []))) ≡ map (changed rule inside) (values_of done) ++ (changed rule inside e.1 ∷ [])
values_more rule inside [] e = refl
values_more rule inside (d ∷ done) e = ap (λ l. changed rule inside d.1 ∷ l) (values_more rule inside done e)

fault_stays : {A E : Type 0} (rule : RuleOf A E) (inside : FunctionContent → List (ℕ × A)) (done : List Entry) (e : Entry) (x : FaultAt E) → IsFaultIn rule inside done x → IsFaultIn rule inside (done ++ (e ∷ [])) x
fault_stays rule inside [] e x h = absurd h
fault_stays rule inside (d ∷ done) e x (inl h) = inl h
fault_stays rule inside (d ∷ done) e x (inr h) = inr (fault_stays rule inside done e x h)

fault_here : {A E : Type 0} (rule : RuleOf A E) (inside : FunctionContent → List (ℕ × A)) (done : List Entry) (e : Entry) (x : FaultAt E) → IsFaultAt rule inside e.1 x → IsFaultIn rule inside (done ++ (e ∷ [])) x
fault_here rule inside [] e x h = inl h
fault_here rule inside (d ∷ done) e x h = inr (fault_here rule inside done e x h)

pub walked_on : {A E : Type 0} (rule : RuleOf A E) (inside : FunctionContent → List (ℕ × A)) (done : List Entry) (e : Entry) (list more : List FunctionContent) (first : Option (FaultAt E)) → AreWalked rule inside done list first → more ≡ list ++ (changed rule inside e.1 ∷ []) → is_sound rule (inside e.1) e.1 ≡ true → AreWalked rule inside (done ++ (e ∷ [])) more first
walked_on rule inside done e list more None h pushed s =
    (pushed ∙ ap (λ l. l ++ (changed rule inside e.1 ∷ [])) h.0 ∙ sym (values_more rule inside done e), sound_all rule inside done e h.1 s)
walked_on rule inside done e list more (Some x) h pushed s = fault_stays rule inside done e x h

one_of : {A E : Type 0} (rule : RuleOf A E) (inside : FunctionContent → List (ℕ × A)) (es : List Entry) (b : Bool) (met earlier : FaultAt E) → IsFaultIn rule inside es met → IsFaultIn rule inside es earlier → IsFaultIn rule inside es (cond b met earlier)
one_of rule inside es true met earlier h k = h
one_of rule inside es false met earlier h k = k

pub fault_met : {A E : Type 0} (rule : RuleOf A E) (inside : FunctionContent → List (ℕ × A)) (done : List Entry) (e : Entry) (list : List FunctionContent) (before : FaultAt E → FaultAt E → Bool) (first : Option (FaultAt E)) (met : FaultAt E) → AreWalked rule inside done list first → IsFaultAt rule inside e.1 met → AreWalked rule inside (done ++ (e ∷ [])) list (Some (first_of before first met))
fault_met rule inside done e list before None met h is = fault_here rule inside done e met is
fault_met rule inside done e list before (Some earlier) met h is =
    one_of rule inside (done ++ (e ∷ [])) (before met earlier) met earlier (fault_here rule inside done e met is) (fault_stays rule inside done e earlier h)

-- ---- Relocations in the file

pub error_in : (rule : Rule) (file : List ℕ) (es : List Entry) (x : FaultAt Fault) (name : Option (List ℕ)) (e : RelocationError) → IsFaultIn rule (relocations_inside file) es x → name ≡ Some x.function.now → IsErrorOf file x.section_index x.offset x.fault e → HasErrorIn rule file es name e
error_in rule file [] x name e h n is = absurd h
error_in rule file (g ∷ gs) x name e (inl h) n is =
    inl (x.offset, x.fault, h.2, n ∙ ap Some h.0, subst (λ s. IsErrorOf file s x.offset x.fault e) h.1 is)
error_in rule file (g ∷ gs) x name e (inr h) n is = inr (error_in rule file gs x name e h n is)

pub error_by : (rule : Rule) (file : List ℕ) (es : List Entry) (stop : Stop Fault) (name : Option (List ℕ)) (e : RelocationError) → IsStop rule (relocations_inside file) es stop → IsErrorFor file stop name e → HasErrorIn rule file es name e
error_by rule file es (stop.Fault x) name e h is = error_in rule file es x name e h is.0 is.1
error_by rule file es stop.OutOfMemory name e h is = absurd is

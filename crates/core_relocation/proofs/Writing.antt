-- One more relocation in a function, and in all functions.
use Rattle.std.proofs.Common.{◌≡◌, ℕ, Bool, true, false, cond, not, List, [], ◌∷◌, ◌++◌, map, inl, inr, refl, sym, ap, ap₂, ◌∙◌, subst, append-nil, append_assoc}
use Rattle.std.specs.Prelude.{filter}
use Rattle.std.proofs.lemmas.List.{map-append}
use Rattle.std.proofs.lemmas.List.Elements.{filter-append}
use Rattle.std.specs.BTreeMap.{is_at}
use Rattle.std.specs.Map.{values_of}
use Rattle.ebpf_items.specs.declared.instruction.bpf_insn.{bpf_insn}
use Rattle.object_parts.specs.Content.{FunctionContent, key_cmp, key_of}
use Rattle.slot_relocation.specs.Walks.{AllSound, is_refused, is_sound}
use Rattle.slot_relocation.specs.Writes.{HasFaultAmong, HasFaultInside, after_all, after_one, outcome_at, relocated_by}
use Rattle.slot_relocation.proofs.Walk.{can_be, fold_more, sound_more}
use Rattle.core_patch.specs.declared.instruction.WriteError.{WriteError}
use Rattle.core_relocation.specs.Faults.{OfWrite, WritesFault}
use Rattle.core_relocation.specs.Walks.{AllTake, IsRefusedAmong, IsRefusedBy, after_relocation, is_in, takes, with_relocation}
use Rattle.core_relocation.specs.Writes.{after_types, inside_of, placed_at, type_rule, with_match, with_matches}
use Rattle.relocation_errors.specs.declared.type_relocations.BtfRelocationCause.{BtfRelocationCause}
use Rattle.core_relocation.specs.declared.placed_relocation.PlacedRelocation.{PlacedRelocation}

abbrev Keyed : Type 0
Keyed = List ((ℕ × ℕ) × FunctionContent)

-- The relocations of a function in a concatenation of lists.
placed_append : (ps more : List PlacedRelocation) (key : ℕ × ℕ) → placed_at (ps ++ more) key ≡ placed_at ps key ++ placed_at more key
placed_append ps more key =
    ap (map (λ (p : PlacedRelocation). (p.offset, p))) (filter-append (λ p. is_at (key_cmp key) p.key) ps more)
    ∙ map-append (λ (p : PlacedRelocation). (p.offset, p)) (filter (λ p. is_at (key_cmp key) p.key) ps) (filter (λ p. is_at (key_cmp key) p.key) more)

-- ---- One more relocation in a function

abbrev with_offset : PlacedRelocation → ℕ × PlacedRelocation
with_offset p = (p.offset, p)

-- The relocations of a function with one more, if it is in this function.
abbrev one_if : Bool → PlacedRelocation → List (ℕ × PlacedRelocation)
one_if b p = cond b (with_offset p ∷ []) []

one_placed : (p : PlacedRelocation) (b : Bool) → map with_offset (cond b (p ∷ []) []) ≡ one_if b p
one_placed p true = refl
one_placed p false = refl

inside_more : (ps : List PlacedRelocation) (p : PlacedRelocation) (f : FunctionContent) → inside_of (ps ++ (p ∷ [])) f ≡ inside_of ps f ++ one_if (is_in p f) p
inside_more ps p f = placed_append ps (p ∷ []) (key_of f) ∙ ap (λ l. inside_of ps f ++ l) (one_placed p (is_in p f))

here : (ps : List PlacedRelocation) (p : PlacedRelocation) (f : FunctionContent) → is_in p f ≡ true → inside_of (ps ++ (p ∷ [])) f ≡ inside_of ps f ++ (with_offset p ∷ [])
here ps p f is = inside_more ps p f ∙ ap (λ b. inside_of ps f ++ one_if b p) is

elsewhere : (ps : List PlacedRelocation) (p : PlacedRelocation) (f : FunctionContent) → is_in p f ≡ false → inside_of (ps ++ (p ∷ [])) f ≡ inside_of ps f
elsewhere ps p f is = inside_more ps p f ∙ ap (λ b. inside_of ps f ++ one_if b p) is ∙ append-nil (inside_of ps f)

-- A function after relocations.
abbrev made : List (ℕ × PlacedRelocation) → FunctionContent → FunctionContent
made rs f = with_matches rs (relocated_by type_rule rs f)

one_more : (rs : List (ℕ × PlacedRelocation)) (p : PlacedRelocation) (f : FunctionContent) → with_relocation p (made rs f) ≡ made (rs ++ (with_offset p ∷ [])) f
one_more rs p f =
    ap₂ (λ (slots : List bpf_insn) (tables : List ℕ). record f { instructions = slots; matched_tables = tables })
    (sym (fold_more (after_one type_rule f) f.instructions rs (with_offset p)))
    (sym (fold_more (λ so_far (x : ℕ × PlacedRelocation). with_match so_far x.1) f.matched_tables rs (with_offset p)))

after_one_more : (ps : List PlacedRelocation) (p : PlacedRelocation) (f : FunctionContent) → after_relocation p (after_types (inside_of ps) f) ≡ after_types (inside_of (ps ++ (p ∷ []))) f
after_one_more ps p f = by (is_in p f) refl where
  by : (b : Bool) → is_in p f ≡ b → cond b (with_relocation p (made (inside_of ps f) f)) (made (inside_of ps f) f) ≡ made (inside_of (ps ++ (p ∷ [])) f) f
  by true is = one_more (inside_of ps f) p f ∙ ap (λ l. made l f) (sym (here ps p f is))
  by false is = ap (λ l. made l f) (sym (elsewhere ps p f is))

not_true : (b : Bool) → not b ≡ true → b ≡ false
not_true true h = absurd (cc)
not_true false h = refl

sound_one_more : (ps : List PlacedRelocation) (p : PlacedRelocation) (f : FunctionContent) → takes p (after_types (inside_of ps) f) ≡ true → is_sound type_rule (inside_of ps f) f ≡ true → is_sound type_rule (inside_of (ps ++ (p ∷ [])) f) f ≡ true
sound_one_more ps p f took sound = by (is_in p f) refl took where
  outcome : Bool
  outcome = is_refused (outcome_at type_rule f (after_all type_rule f (inside_of ps f)) (with_offset p))

  by : (b : Bool) → is_in p f ≡ b → cond b (not outcome) true ≡ true → is_sound type_rule (inside_of (ps ++ (p ∷ [])) f) f ≡ true
  by true is fits =
      ap (λ l. is_sound type_rule l f) (here ps p f is)
      ∙ sound_more type_rule f (inside_of ps f) (with_offset p) (after_all type_rule f (inside_of ps f)) refl sound (not_true outcome fits)
  by false is fits = ap (λ l. is_sound type_rule l f) (elsewhere ps p f is) ∙ sound

-- A fault of a function's writes.
abbrev FaultOf : List (ℕ × PlacedRelocation) → FunctionContent → BtfRelocationCause → Type 0
FaultOf rs f c = (offset : ℕ) × (e : WriteError) × HasFaultAmong type_rule f rs offset e × OfWrite e c

fault_one_more : (ps : List PlacedRelocation) (p : PlacedRelocation) (f : FunctionContent) (c : BtfRelocationCause) → is_in p f ≡ true → IsRefusedBy p (after_types (inside_of ps) f) c → FaultOf (inside_of (ps ++ (p ∷ [])) f) f c
fault_one_more ps p f c is refused =
    subst (λ l. FaultOf l f c) (sym (here ps p f is))
    (p.offset, refused.0, (inside_of ps f, with_offset p, [], refl, refl, refused.1), refused.2)

-- ---- One more relocation in all functions

pub all_one_more : (ps : List PlacedRelocation) (p : PlacedRelocation) (fs : List FunctionContent) → map (after_relocation p) (map (after_types (inside_of ps)) fs) ≡ map (after_types (inside_of (ps ++ (p ∷ [])))) fs
all_one_more ps p [] = refl
all_one_more ps p (f ∷ fs) = ap₂ ◌∷◌ (after_one_more ps p f) (all_one_more ps p fs)

pub all_sound : (ps : List PlacedRelocation) (p : PlacedRelocation) (es : Keyed) → AllTake p (map (after_types (inside_of ps)) (values_of es)) → AllSound type_rule (inside_of ps) es → AllSound type_rule (inside_of (ps ++ (p ∷ []))) es
all_sound ps p [] took sound = tt
all_sound ps p (e ∷ es) took sound = (sound_one_more ps p e.1 took.0 sound.0, all_sound ps p es took.1 sound.1)

pub fault_among : (ps : List PlacedRelocation) (p : PlacedRelocation) (es : Keyed) (c : BtfRelocationCause) → IsRefusedAmong p (map (after_types (inside_of ps)) (values_of es)) c → WritesFault (inside_of (ps ++ (p ∷ []))) es c
fault_among ps p [] c refused = absurd refused
fault_among ps p (e ∷ es) c (inl refused) = inl (fault_one_more ps p e.1 c refused.0 refused.1)
fault_among ps p (e ∷ es) c (inr refused) = inr (fault_among ps p es c refused)

-- ---- No relocation, and more of them

pub as_before : (fs : List FunctionContent) → fs ≡ map (after_types (inside_of [])) fs
as_before [] = refl
as_before (f ∷ fs) = ap (λ l. f ∷ l) (as_before fs)

pub none_refused : (es : Keyed) → AllSound type_rule (inside_of []) es
none_refused [] = tt
none_refused (e ∷ es) = (refl, none_refused es)

fault_in_more : (f : FunctionContent) (rs more : List (ℕ × PlacedRelocation)) (c : BtfRelocationCause) → FaultOf rs f c → FaultOf (rs ++ more) f c
fault_in_more f rs more c (offset, e, stands, is) = (
  offset,
  e,
  (
    stands.0,
    stands.1,
    stands.2 ++ more,
    sym (append_assoc stands.0 (stands.1 ∷ stands.2) more) ∙ ap (λ l. l ++ more) stands.3,
    stands.4,
    stands.5,
  ),
  is,
)

-- A fault among the first relocations is a fault among all of them.
pub fault_with_more : (ps more : List PlacedRelocation) (es : Keyed) (c : BtfRelocationCause) → WritesFault (inside_of ps) es c → WritesFault (inside_of (ps ++ more)) es c
fault_with_more ps more [] c stands = stands
fault_with_more ps more (e ∷ es) c (inl stands) =
    inl (subst (λ l. FaultOf l e.1 c) (sym (placed_append ps more (key_of e.1))) (fault_in_more e.1 (inside_of ps e.1) (placed_at more (key_of e.1)) c stands))
fault_with_more ps more (e ∷ es) c (inr stands) = inr (fault_with_more ps more es c stands)

no_fault_by : (ps : List PlacedRelocation) (es : Keyed) (c : BtfRelocationCause) → (HasFaultInside type_rule (inside_of ps) es → ⊥) → WritesFault (inside_of ps) es c → ⊥
no_fault_by ps [] c none stands = stands
no_fault_by ps (e ∷ es) c none (inl stands) = none (inl (stands.0, stands.1, stands.2))
no_fault_by ps (e ∷ es) c none (inr stands) = no_fault_by ps es c (λ h. none (inr h)) stands

pub no_writes_fault : (ps : List PlacedRelocation) (es : Keyed) (c : BtfRelocationCause) → AllSound type_rule (inside_of ps) es → WritesFault (inside_of ps) es c → ⊥
no_writes_fault ps es c sound = let are = can_be type_rule (inside_of ps) es sound in no_fault_by ps es c are.none

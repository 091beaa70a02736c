-- Plans and refusals are determined by inputs and answers.
use Rattle.std.proofs.Common.{◌≡◌, inl, inr, ℕ, Bool, true, List, [], ◌∷◌, ◌++◌, map, Option, None, Some, is_some, refl, sym, ap, ap₂, ◌∙◌, subst}
use Rattle.btf_records.specs.declared.feature.BtfFeature.{BtfFeature}
use Rattle.btf_sanitize.specs.Answers.{Answers}
use Rattle.ebpf_items.specs.declared.instruction.bpf_insn.{bpf_insn}
use Rattle.object_contents.specs.Faults.{HasFault}
use Rattle.linker.specs.Layout.{Key}
use Rattle.linker.specs.Theorems.{LayoutIsUnique}
use Rattle.load_plan.specs.Inputs.{Inputs, IsSaid, State, Under}
use Rattle.load_plan.specs.Known.{GoByFeature, IsPlanFor, IsRefusalFor}
use Rattle.load_plan.specs.Passes.{ExternSlots, Externs, FunctionRecords, GlobalValues, Helpers, KernelTypes, Made, MapNumbers, MapSlots, OfParse, Pass, Refused, TypeSlots, Types, linking, passes, patching}
use Rattle.load_plan.specs.Planned.{IsPlanOf, IsWholeObject}
use Rattle.plan_errors.specs.declared.error.PrepareError.{PrepareError}
use Rattle.load_plan.specs.declared.order.Order.{Order}
use Rattle.load_plan.specs.declared.order.Order.TheVariants.{RelocateFirst, RewriteFirst}
use Rattle.object_parts.specs.Content.{FunctionContent, ProgramContent, function_at}
use Rattle.load_plan.specs.Plans.{plan_of, plan_program_of, program_of, type_bytes}
use Rattle.plan_laws.proofs.Asked.{asked-same}
use Rattle.plan_laws.proofs.Chains.{blind-same, has_types, made-answers, made-not-refused, made-one, made-parts, made-rising, made-whole, passes-need, patching-needs}
use Rattle.plan_laws.proofs.Parsed.{Rising, whole-rises, whole-same}
use Rattle.plan_laws.proofs.Passes.{Agree, Needs, of-parse}
use Rattle.plan_laws.specs.Determined.{FeaturesLeaveSlotsAndMaps, IsPlanUnder, IsRefusalUnder, PlansAreDetermined, PlansExcludeRefusals, SameSlotsAndMaps, slots_of}
use Rattle.load_plan.specs.Orders.{IsMadePlan}
use Rattle.load_plan.specs.PlanMaps.{plan_map}
use Rattle.plan_text.specs.Content.{PlanContent}
use Rattle.plan_text.specs.PlanGrammar.{text_of}
use Rattle.program_kinds.specs.declared.program_section.ProgramSection.{ProgramSection}

-- Answers that agree.

pub agree-itself : (u : Under) → Agree u u
agree-itself u = record { answers = λ table one two. refl }

pub agree-known : (grants : BtfFeature → Bool) (u v : Under) → GoByFeature grants u.answers
    → GoByFeature grants v.answers → Agree u v
agree-known grants u v one two = record {
  answers =
      λ table first second. asked-same grants table.strings table.types u.answers v.answers one two first.questions
      second.questions;
}

pub said-same : (has_helpers : Bool) (a b : Option Bool) → IsSaid (λ answer. answer ≡ has_helpers) a
    → IsSaid (λ answer. answer ≡ has_helpers) b → is_some a ≡ is_some b → a ≡ b
said-same has_helpers None None one two same = refl
said-same has_helpers None (Some y) one two same = absurd (cc)
said-same has_helpers (Some x) None one two same = absurd (cc)
said-same has_helpers (Some x) (Some y) one two same = ap (λ (b : Bool). Some b) (one ∙ sym two)

has-types : (order : Order) → has_types (patching order) ≡ true
has-types RelocateFirst = refl
has-types RewriteFirst = refl

-- A plan is unique.

pub is-made : (i : Inputs) (u : Under) (object : State) (plan : PlanContent) → IsPlanOf i u object plan
    → IsMadePlan i u object plan
is-made i u object plan planned = record {
  patched = planned.patched;
  patching = planned.patching;
  final = planned.final;
  linking = planned.linking;
  is = planned.is;
}

pub plan-one : (laws : LayoutIsUnique) (i : Inputs) (u v : Under) (agree : Agree u v)
    → (helped : Needs Helpers u v) (object : State) (a b : PlanContent) → Rising object → IsMadePlan i u object a
    → IsMadePlan i v object b → a ≡ b
plan-one laws i u v agree helped object a b rising one two =
    let needs = patching-needs u v agree i.order in
    let patched : two.patched ≡ one.patched =
    sym (made-one laws i u v
    (patching i.order) object one.patched two.patched rising needs one.patching two.patching) in
    let linked : Made linking i v one.patched two.final =
    subst (λ (s : State). Made linking i v s two.final) patched two.linking in
    let rises = made-rising i u (patching i.order) object one.patched rising one.patching in
    let final : one.final ≡ two.final =
    made-one laws i u v linking one.patched one.final two.final rises (tt, (helped, tt)) one.linking linked in
    let answers : u.answers ≡ v.answers =
    made-answers laws i u v
    (patching i.order) object one.patched two.patched rising needs one.patching two.patching (has-types i.order) in
    one.is ∙ ap₂ (λ (x : Answers) (s : State). plan_of x (map (plan_map i.settings) s.maps) s) answers final
    ∙ sym two.is

pub for-object : (i : Inputs) (u : Under) (a b : State) (plan : PlanContent) → IsWholeObject i.file a
    → IsWholeObject i.file b → IsPlanOf i u b plan → IsPlanOf i u a plan
for-object i u a b plan one two planned =
    subst (λ (s : State). IsPlanOf i u s plan) (whole-same i.file b a two one) planned

kernel-one : (laws : LayoutIsUnique) (i : Inputs) (grants : BtfFeature → Bool)
    → (has_helpers : Bool) (a b : PlanContent) → IsPlanFor grants has_helpers i a → IsPlanFor grants has_helpers i b
    → a ≡ b
kernel-one laws i grants has_helpers a b one two =
    plan-one laws i one.under two.under
    (agree-known grants one.under two.under one.known.features two.known.features)
    (said-same has_helpers one.under.has_helpers two.under.has_helpers one.known.helpers two.known.helpers)
    one.object a b (whole-rises i.file one.object one.whole) (is-made i one.under one.object a one.planned)
    (is-made i two.under one.object b
    (for-object i two.under one.object two.object b one.whole two.whole two.planned))

pub determined : (laws : LayoutIsUnique) → PlansAreDetermined
determined laws = record {
  under = λ i u a b one two.
      plan-one laws i u u (agree-itself u) (λ same. refl) one.object a b
      (whole-rises i.file one.object one.whole) (is-made i u one.object a one.planned)
      (is-made i u one.object b (for-object i u one.object two.object b one.whole two.whole two.planned));
  kernel = kernel-one laws;
  texts = λ i grants has_helpers a b one two.
      ap text_of (kernel-one laws i grants has_helpers a b one two);
}

-- A plan and a refusal exclude each other.

pub not-both : (laws : LayoutIsUnique) (i : Inputs) (u v : Under) (agree : Agree u v)
    → (object : State) (plan : PlanContent) (e : PrepareError) → Rising object → IsMadePlan i u object plan
    → Refused (passes i.order) i v object e → ⊥
not-both laws i u v agree object plan e rising planned refused =
    made-not-refused laws i u v agree (passes i.order) object planned.final e rising
    (passes-need u v agree i.order)
    (made-whole i u (patching i.order) linking object planned.patched planned.final planned.patching planned.linking)
    refused

pub not-faulty : (file : List ℕ) (object : State) (e : PrepareError) → IsWholeObject file object
    → OfParse (HasFault file) e → ⊥
not-faulty file object e whole fault = of-parse (HasFault file) whole.faultless.none e fault

pub excluded : (laws : LayoutIsUnique) → PlansExcludeRefusals
excluded laws = record { under = under; kernel = kernel } where
  under : (i : Inputs) (u : Under) (plan : PlanContent) (e : PrepareError)
      → IsPlanUnder i u plan → IsRefusalUnder i u e → ⊥
  under i u plan e planned (inl fault) = not-faulty i.file planned.object e planned.whole fault
  under i u plan e planned (inr refusal) =
      not-both laws i u u (agree-itself u) planned.object plan e
      (whole-rises i.file planned.object planned.whole) (is-made i u planned.object plan planned.planned)
      (subst (λ (s : State). Refused (passes i.order) i u s e)
      (whole-same i.file refusal.object planned.object refusal.whole planned.whole) refusal.refused)

  kernel : (i : Inputs) (grants : BtfFeature → Bool) (has_helpers : Bool) (plan : PlanContent) (e : PrepareError)
      → IsPlanFor grants has_helpers i plan → IsRefusalFor grants i e → ⊥
  kernel i grants has_helpers plan e planned (inl fault) = not-faulty i.file planned.object e planned.whole fault
  kernel i grants has_helpers plan e planned (inr refusal) =
      not-both laws i planned.under refusal.under
      (agree-known grants planned.under refusal.under planned.known.features refusal.known) planned.object plan e
      (whole-rises i.file planned.object planned.whole) (is-made i planned.under planned.object plan planned.planned)
      (subst (λ (s : State). Refused (passes i.order) i refusal.under s e)
      (whole-same i.file refusal.object planned.object refusal.whole planned.whole) refusal.refused)

-- Answers about features change no slot if type relocations come first.

-- The passes before the rewriting of types, and after it.
abbrev before : List Pass
before = FunctionRecords ∷ MapNumbers ∷ GlobalValues ∷ KernelTypes ∷ Externs ∷ TypeSlots ∷ []

abbrev after : List Pass
after = MapSlots ∷ ExternSlots ∷ []

slots-by : (a b : Answers) (x y : Bool) (name : List ℕ) (section : ProgramSection) (o : Option FunctionContent)
    → (program_of a x name section o).slots ≡ (program_of b y name section o).slots
slots-by a b x y name section None = refl
slots-by a b x y name section (Some f) = refl

slots-same : (a b : Answers) (x y : Bool) (functions : List (Key × FunctionContent))
    → (programs : List (List ℕ × ProgramContent))
    → map (λ p. p.slots) (map (plan_program_of a x functions) programs)
    ≡ map (λ p. p.slots) (map (plan_program_of b y functions) programs)
slots-same a b x y functions [] = refl
slots-same a b x y functions (e ∷ es) =
    ap₂ (λ (s : List bpf_insn) (ss : List (List bpf_insn)). s ∷ ss)
    (slots-by a b x y e.0 e.1.section (function_at functions (e.1.section_index, e.1.address)))
    (slots-same a b x y functions es)

-- The result of the passes before the rewriting, and of the passes after it over an object that
-- differs only in types.
record Ends (i : Inputs) (u : Under) (object final : State) : Type 0 where
  middle : State
  made : Made before i u object middle
  rewritten : State
  only : rewritten ≡ record middle { types = rewritten.types }
  rest : Made (after ++ linking) i u rewritten final

ends : (i : Inputs) (u : Under) (object : State) (plan : PlanContent) → i.order ≡ RelocateFirst
    → (planned : IsPlanOf i u object plan) → Ends i u object planned.final
ends i u object plan first planned =
    let made : Made (patching RelocateFirst) i u object planned.patched =
    subst (λ (o : Order). Made (patching o) i u object planned.patched) first planned.patching in
    let parts = made-parts i u before (Types ∷ after) object planned.patched made in
    record {
      middle = parts.0;
      made = parts.1;
      rewritten = parts.2.0;
      only = parts.2.1.others;
      rest = made-whole i u after linking parts.2.0 planned.patched planned.final parts.2.2 planned.linking;
    }

slots-and-maps-same : (laws : LayoutIsUnique) (i : Inputs) (first : i.order ≡ RelocateFirst)
    → (u v : Under) (helped : Needs Helpers u v) (object : State) (a b : PlanContent) → Rising object
    → IsPlanOf i u object a → IsPlanOf i v object b → SameSlotsAndMaps a b
slots-and-maps-same laws i first u v helped object a b rising one two =
    let x = ends i u object a first one in
    let y = ends i v object b first two in
    let middle : y.middle ≡ x.middle =
    sym (made-one laws i u v before object x.middle y.middle rising
    (tt, (tt, (tt, (tt, (tt, (tt, tt)))))) x.made y.made) in
    let only : y.rewritten ≡ record x.middle { types = y.rewritten.types } =
    subst (λ (s : State). y.rewritten ≡ record s { types = y.rewritten.types }) middle y.only in
    let rises = made-rising i u before object x.middle rising x.made in
    let final =
    blind-same laws i u v (after ++ linking) (tt, (tt, (tt, (tt, tt))))
    (tt, (tt, (tt, (helped, tt)))) x.middle x.rewritten y.rewritten one.final two.final rises x.only only x.rest
    y.rest in
    let slots =
    slots-same u.answers v.answers (is_some (type_bytes one.final.types))
    (is_some (type_bytes two.final.types)) one.final.functions one.final.programs in
    let there =
    ap (λ (s : State). map (λ p. p.slots)
    (map (plan_program_of v.answers (is_some (type_bytes two.final.types)) s.functions) s.programs)) (sym final) in
    record {
      maps =
          ap (λ (p : PlanContent). p.maps) one.is ∙ ap (λ (s : State). map (plan_map i.settings) s.maps) (sym final)
          ∙ sym (ap (λ (p : PlanContent). p.maps) two.is);
      slots = ap slots_of one.is ∙ slots ∙ there ∙ sym (ap slots_of two.is);
    }

pub unchanged : (laws : LayoutIsUnique) → FeaturesLeaveSlotsAndMaps
unchanged laws = record {
  under = λ i first u v helpers a b one two.
      slots-and-maps-same laws i first u v (λ same. helpers) one.object a b
      (whole-rises i.file one.object one.whole) one.planned
      (for-object i v one.object two.object b one.whole two.whole two.planned);
  kernel = λ i first grants others has_helpers a b one two.
      slots-and-maps-same laws i first one.under two.under
      (said-same has_helpers one.under.has_helpers two.under.has_helpers one.known.helpers two.known.helpers) one.object
      a b
      (whole-rises i.file one.object one.whole) one.planned
      (for-object i two.under one.object two.object b one.whole two.whole two.planned);
}

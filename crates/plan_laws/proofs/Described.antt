-- The programs of a plan, each described by itself.
use Rattle.std.proofs.Common.{◌≡◌, ◌==◌, ℕ, zero, suc, ◌-◌, Bool, true, false, cond, List, [], ◌∷◌, map, length, Option, None, Some, refl, sym, ap, ◌∙◌, subst, slice_get}
use Rattle.std.specs.List.{AllByRecursion, AllZip}
use Rattle.std.specs.Option.{option_map, unwrap_or}
use Rattle.btf_encoding.specs.Records.{without_fallback}
use Rattle.btf_storage.specs.Ids.{record_of_id}
use Rattle.btf_records.specs.declared.types.BtfType.{BtfType}
use Rattle.btf_records.specs.declared.types.BtfType.TheVariants as types
use Rattle.btf_records.specs.declared.words.Endianness.{Endianness}
use Rattle.btf_sanitize.specs.Answers.{Answers, granted}
use Rattle.btf_sanitize.specs.Kept.{AllGranted, needed_after}
use Rattle.btf_rewrite.specs.Sanitizing.{stepped}
use Rattle.btf_tables.specs.Sections.{HoldsTable, without_fallbacks}
use Rattle.btf_tables.specs.Tables.{Table}
use Rattle.ebpf_object.specs.Rewriting.{IsRewritten, IsRewrittenIf}
use Rattle.load_plan.specs.Granted.{AreGranted, NeedGranted, came_as}
use Rattle.load_plan.specs.Inputs.{Inputs, State, Under}
use Rattle.load_plan.specs.Passes.{ExternSlots, Externs, FunctionRecords, GlobalValues, Helpers, KernelTypes, Links, Makes, MapNumbers, MapSlots, Pass, TypeSlots, Types, linking, patching, unlinked_of}
use Rattle.load_plan.specs.Planned.{IsPlanOf}
use Rattle.load_plan.specs.Programs.{ArePlanPrograms, Before, before_slots, func_records_of, own_key}
use Rattle.object_parts.specs.Content.{ProgramContent}
use Rattle.load_plan.specs.Plans.{HoldsTypeBytes}
use Rattle.plan_laws.proofs.Kept.{made-keeps}
use Rattle.plan_laws.specs.Programs.{AreDescribed, IsDescribed, PlanProgramsAreDescribed, TypesAreGranted}
use Rattle.plan_text.specs.Content as plan
use Rattle.plan_text.specs.Content.{PlanContent}

-- The enums that unions stand for need no feature.

needed-union : (o : Option BtfType) (r : BtfType)
    → needed_after (unwrap_or o (without_fallback r)) (without_fallback r) ≡ needed_after (unwrap_or o r) r
needed-union o (types.Union t) = refl
needed-union o _ = refl

-- The record of an id, before these enums were left out.
record Held (before : List BtfType) (id : ℕ) (r : BtfType) : Type 0 where
  record_of : BtfType
  is : record_of_id before id ≡ Some record_of
  same : r ≡ without_fallback record_of

held-at : (ts : List BtfType) (n : ℕ) (r : BtfType) → slice_get (map without_fallback ts) n ≡ Some r
    → (t : BtfType) × (slice_get ts n ≡ Some t) × (r ≡ without_fallback t)
held-at [] n r is = absurd (cc)
held-at (t ∷ ts) zero r is = (t, refl, sym (ap (λ (o : Option BtfType). unwrap_or o r) is))
held-at (t ∷ ts) (suc n) r is = held-at ts n r is

held-by : (ts : List BtfType) (id : ℕ) (r : BtfType) → record_of_id (map without_fallback ts) id ≡ Some r → Held ts id r
held-by ts id r is = by (id == 0) refl is where
  by : (t : Bool) → (id == 0) ≡ t → cond t (Some types.Unknown) (slice_get (map without_fallback ts) (id - 1)) ≡ Some r
      → Held ts id r
  by true first found = record {
    record_of = types.Unknown;
    is = ap (λ (t : Bool). cond t (Some types.Unknown) (slice_get ts (id - 1))) first;
    same = sym (ap (λ (o : Option BtfType). unwrap_or o r) found);
  }
  by false more found =
      let at = held-at ts (id - 1) r found in
      record {
        record_of = at.0;
        is = ap (λ (t : Bool). cond t (Some types.Unknown) (slice_get ts (id - 1))) more ∙ at.1;
        same = at.2;
      }

pub granted-without : (answers : Answers) (before after : List BtfType) → NeedGranted answers before after
    → NeedGranted answers before (map without_fallback after)
granted-without answers before after need = record { each = λ id r is. by id r (held-by after id r is) } where
  by : (id : ℕ) (r : BtfType) → Held after id r → AllGranted (granted answers) (needed_after (came_as before id r) r)
  by id r held =
      let all = need.each id held.record_of held.is in
      let without =
      subst (AllGranted (granted answers)) (sym (needed-union (record_of_id before id) held.record_of)) all in
      subst (λ (x : BtfType). AllGranted (granted answers) (needed_after (came_as before id x) x))
      (sym held.same) without

-- The byte order of an object's types is unchanged.

order-of : Option Table → Option Endianness
order-of types = option_map (λ t. t.order) types

rewritten-by : (t : Bool) (answers : Answers) (file : List ℕ) (ksyms : Option (ℕ × Option ℕ)) (table new : Table)
    → IsRewrittenIf t answers file ksyms table new → new.order ≡ table.order
rewritten-by true answers file ksyms table new left = ap (λ (o : Option Table). (unwrap_or o table).order) left.same
rewritten-by false answers file ksyms table new made = ap (λ (t : Table). t.order) made.table_is ∙ by ksyms where
  by : (o : Option (ℕ × Option ℕ)) → (stepped o table).order ≡ table.order
  by None = refl
  by (Some ids) = refl

rewritten-order : (answers : Answers) (file : List ℕ) (ksyms : Option (ℕ × Option ℕ)) (types new : Option Table)
    → IsRewritten answers file ksyms types new → order-of new ≡ order-of types
unfolding order-of
rewritten-order answers file ksyms None None made = refl
rewritten-order answers file ksyms None (Some new) made = absurd made
rewritten-order answers file ksyms (Some table) None made = absurd made
rewritten-order answers file ksyms (Some table) (Some new) made =
    ap (λ (o : Endianness). Some o) (rewritten-by (length table.types == 0) answers file ksyms table new made)

order-stays : (i : Inputs) (u : Under) (p : Pass) (s t : State) → Unit {0} → Makes p i u s t
    → order-of t.types ≡ order-of s.types
order-stays i u FunctionRecords s t ok made = ap (λ (x : State). order-of x.types) made.1
order-stays i u MapNumbers s t ok made = ap (λ (x : State). order-of x.types) made.1
order-stays i u GlobalValues s t ok made = ap (λ (x : State). order-of x.types) made.maps
order-stays i u KernelTypes s t ok made = ap (λ (x : State). order-of x.types) made.1
order-stays i u Externs s t ok made = ap (λ (x : State). order-of x.types) made.others
order-stays i u TypeSlots s t ok made = ap (λ (x : State). order-of x.types) made.others
order-stays i u Types s t ok made = rewritten-order u.answers s.file s.externs.ksyms s.types t.types made.types
order-stays i u MapSlots s t ok made = ap (λ (x : State). order-of x.types) made.others
order-stays i u ExternSlots s t ok made = ap (λ (x : State). order-of x.types) made.others
order-stays i u Links s t ok made = ap (λ (x : State). order-of x.types) made.others
order-stays i u Helpers s t ok made = ap (λ (x : State). order-of x.types) made.functions

any-passes : (ps : List Pass) → AllByRecursion (λ p. Unit {0}) ps
any-passes [] = tt
any-passes (p ∷ ps) = (tt, any-passes ps)

-- The features that the types of a plan need.

types-granted : (answers : Answers) (object : State) (new : Option Table) (bytes : Option (List ℕ))
    → order-of new ≡ order-of object.types → HoldsTypeBytes new bytes
    → AreGranted answers object.externs.ksyms object.types new → TypesAreGranted object answers bytes
unfolding order-of
types-granted answers object new None same holds granted = tt
types-granted answers object None (Some bytes) same holds granted = absurd holds
types-granted answers object (Some table) (Some bytes) same holds granted = by object.types refl same granted where
  by : (o : Option Table) → object.types ≡ o → Some table.order ≡ option_map (λ t. t.order) o
      → AreGranted answers object.externs.ksyms o (Some table) → TypesAreGranted object answers (Some bytes)
  by None is alike granted = absurd granted
  by (Some old) is alike granted =
      let order : table.order ≡ old.order = cc in (
        old,
        record {
          old = is;
          held = without_fallbacks table;
          holds = subst (λ (o : Endianness). HoldsTable o bytes (without_fallbacks table)) order holds;
          granted = granted-without answers (stepped object.externs.ksyms old).types table.types granted;
        },
      )

-- The programs of a plan.

described-by : (i : Inputs) (u : Under) (object patched : State) (before : Before)
    → (whole : PlanContent) → whole.features ≡ u.answers → TypesAreGranted object whole.features whole.type_bytes
    → (es : List (List ℕ × ProgramContent)) (ps : List plan.ProgramContent)
    → ArePlanPrograms i u object patched before whole es ps
    → AllZip (IsDescribed i u object patched before whole) es ps
described-by i u object patched before whole features types [] [] are = tt
described-by i u object patched before whole features types [] (p ∷ ps) are = absurd are
described-by i u object patched before whole features types (e ∷ es) [] are = absurd are
described-by i u object patched before whole features types (e ∷ es) (p ∷ ps) are =
    let is = are.0 in (
      record {
        program = is;
        records =
            is.func_records
            ∙ ap (λ (answers : Answers). func_records_of answers (unlinked_of patched) (own_key e.1) is.keys)
            (sym features);
        types = types;
      },
      described-by i u object patched before whole features types es ps are.1,
    )

described : (i : Inputs) (u : Under) (object : State) (whole : PlanContent) → IsPlanOf i u object whole
    → AreDescribed i u object whole
described i u object whole planned =
    let keeps = made-keeps i u (λ s. order-of s.types) (λ p. Unit {0}) (order-stays i u) in
    let patched = keeps (patching i.order) (any-passes (patching i.order)) object planned.patched planned.patching in
    let final = keeps linking (any-passes linking) planned.patched planned.final planned.linking in
    let features : whole.features ≡ u.answers = ap (λ (p : PlanContent). p.features) planned.is in
    let need =
    types-granted u.answers object planned.final.types whole.type_bytes
    (final ∙ patched) planned.types planned.granted in
    let types = subst (λ (answers : Answers). TypesAreGranted object answers whole.type_bytes) (sym features) need in
    record {
      patched = planned.patched;
      made = planned.patching;
      programs =
          described-by i u object planned.patched (before_slots i u object planned.patched planned.patching) whole features types object.programs
          whole.programs planned.programs;
    }

pub programs_are_described : PlanProgramsAreDescribed
programs_are_described = record { each = described }

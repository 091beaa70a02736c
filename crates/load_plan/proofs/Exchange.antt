-- The passes over types in both orders.
use Rattle.std.proofs.Common.{◌≡◌, ◌⊎◌, inl, inr, ◌==◌, ℕ, Bool, true, false, List, [], ◌∷◌, ◌++◌, length, None, Some, Option, refl, sym, ap, subst, ◌∙◌}
use Rattle.std.specs.Prelude.{All, IfSome, is_some, unwrap_or}
use Rattle.std.specs.Option.{MatchOption}
use Rattle.btf_ext.specs.Extensions.{Extension}
use Rattle.btf_records.specs.declared.feature.BtfFeature.{BtfFeature}
use Rattle.btf_records.specs.declared.types.BtfType.{BtfType}
use Rattle.btf_sanitize.specs.Answers.{Answers}
use Rattle.btf_tables.specs.GrownTables.{TextsStay}
use Rattle.btf_tables.specs.Holdings.{AgreeOnTexts, held_names}
use Rattle.btf_tables.specs.Tables.{Table, type_by_id}
use Rattle.ebpf_object.specs.Rewriting.{CannotRewrite, IsRewritten, IsRewrittenIf}
use Rattle.ebpf_object.specs.TypeRelocations.{section_infos_beside, type_section_infos, types_of}
use Rattle.extern_resolution.specs.Resolution.{AreResolved}
use Rattle.load_plan.specs.Inputs.{GoByFeature, Inputs, Predicate, State, Symbols, Under, in_order}
use Rattle.load_plan.specs.Orders.{IsMadePlan, IsOrderFree, IsOrderFreeFor, IsReadable, IsRefusedIn, OrdersAgree, RefusesToo, StaysReached, checking}
use Rattle.load_plan.specs.Passes.{CannotRelocateTypes, ExternSlots, Externs, FunctionRecords, GlobalValues, KernelTypes, Made, Makes, MapNumbers, MapSlots, OfTypeRelocation, OfTypes, Pass, Refused, Refuses, RelocatesTypes, RewritesTypes, TypeSlots, Types, first_of, first_table, linking, passes, patching, second_of}
use Rattle.load_plan.specs.Planned.{IsPassRefusal, IsRefusedObject, IsWholeObject}
use Rattle.load_plan.specs.declared.order.Order.{Order}
use Rattle.load_plan.specs.declared.order.Order.TheVariants.{RelocateFirst, RewriteFirst}
use Rattle.object_externs.specs.Externs.{ExternsContent}
use Rattle.object_parts.specs.Content.{FunctionContent}
use Rattle.plan_errors.specs.declared.error.PrepareError.{PrepareError}
use Rattle.plan_errors.specs.declared.error.PrepareError.TheVariants as error
use Rattle.plan_text.specs.Content.{PlanContent}
use Rattle.string_table.specs.Texts.{text_at}
use Rattle.core_relocation.specs.Faults.{CanBeRelocated, HasTypesFault}
use Rattle.core_relocation.specs.Laws.{AgreeOnReach, RelocationsRest}
use Rattle.core_relocation.specs.Reach.{reach_of}
use Rattle.core_relocation.specs.Relocations.{SectionInfos, types_given}
use Rattle.core_relocation.specs.Writes.{AreRelocated}
use Rattle.relocation_errors.specs.declared.place.RelocationPlace.TheVariants.{SectionInfo}
use Rattle.relocation_errors.specs.declared.type_relocations.BtfRelocationCause.{BtfRelocationCause}
use Rattle.load_plan.proofs.Chain.{unanswered}
use Rattle.load_plan.proofs.Total.{relocating_made, rewriting_made}

-- Tables that agree.

all-map : {A : Type 0} (P Q : A → Type 0) (xs : List A) → ((x : A) → P x → Q x) → All P xs → All Q xs
all-map P Q xs f h = λ k d lt. f _ (h k d lt)

texts-stay : (answers : Answers) (file : List ℕ) (ksyms : Option (ℕ × Option ℕ)) (table new : Table) (t : Bool) → IsRewrittenIf t answers file ksyms table new → TextsStay table new
texts-stay answers file ksyms table new true left =
    let same : new ≡ table = ap (λ (o : Option Table). unwrap_or o table) left.same in
    record { stay = λ offset text e. ap (λ (x : Table). text_at x.strings offset) same ∙ e }
texts-stay answers file ksyms table new false rewritten = rewritten.texts

text-same : (table new : Table) → TextsStay table new → (offset : ℕ) → is_some (text_at table.strings offset) ≡ true → text_at new.strings offset ≡ text_at table.strings offset
text-same table new stays offset there = by (text_at table.strings offset) refl there where
  by : (o : Option (List ℕ)) → text_at table.strings offset ≡ o → is_some o ≡ true → text_at new.strings offset ≡ o
  by None e h = cc
  by (Some text) e h = stays.stay offset text e

texts-same : (table new : Table) (section_infos : SectionInfos) → IsReadable table section_infos → TextsStay table new → AgreeOnTexts (reach_of table section_infos) table new
texts-same table new section_infos readable texts = record { same = λ id here. by id here (type_by_id table id) refl } where
  by : (id : ℕ) → reach_of table section_infos id ≡ true → (o : Option BtfType) → type_by_id table id ≡ o → IfSome o (λ t. All (λ offset. text_at new.strings offset ≡ text_at table.strings offset) (held_names t))
  by id here None e = tt
  by id here (Some t) e = all-map _ _ (held_names t) (text-same table new texts) (readable.names id t here e)

agree : (table new : Table) (section_infos : SectionInfos) → IsReadable table section_infos → StaysReached table new section_infos → TextsStay table new → AgreeOnReach table new section_infos
agree table new section_infos readable stays texts = record {
  records = stays.same;
  texts = texts-same table new section_infos readable texts;
  accesses = all-map _ _ section_infos (λ x. all-map _ _ x.records (λ r. text-same table new texts r.access_str_off)) readable.accesses;
  sections = all-map _ _ section_infos (λ x. text-same table new texts x.name_offset) readable.sections;
}

-- Type relocations before a rewriting and after it.

-- The tables of an object before and after the rewriting agree on the records that its type
-- relocations reach.
abbrev Agree : Answers → State → Type 0
Agree answers s =
    (table new : Table) → s.types ≡ Some table → IsRewritten answers s.file s.externs.ksyms (Some table) (Some new) → AgreeOnReach table new (type_section_infos s)

-- An object with other types.
abbrev retyped : State → Option Table → State
retyped s types = record s { types = types }

relocated-by : (law : RelocationsRest) (file : List ℕ) (functions : List ((ℕ × ℕ) × FunctionContent)) (table new : Table) (targets : List Table) (o : Option Extension)
    → AgreeOnReach table new (section_infos_beside (Some table) o) → (to : List ((ℕ × ℕ) × FunctionContent))
    → (AreRelocated (types_given file functions table targets) (section_infos_beside (Some table) o) to → AreRelocated (types_given file functions new targets) (section_infos_beside (Some new) o) to)
    × (AreRelocated (types_given file functions new targets) (section_infos_beside (Some new) o) to → AreRelocated (types_given file functions table targets) (section_infos_beside (Some table) o) to)
relocated-by law file functions table new targets None a to = law.relocated (types_given file functions table targets) new _ a to
relocated-by law file functions table new targets (Some x) a to = law.relocated (types_given file functions table targets) new x.relocations a to

refused-by : (law : RelocationsRest) (file : List ℕ) (functions : List ((ℕ × ℕ) × FunctionContent)) (table new : Table) (targets : List Table) (o : Option Extension)
    → AgreeOnReach table new (section_infos_beside (Some table) o) → (c : BtfRelocationCause)
    → (HasTypesFault (types_given file functions table targets) (section_infos_beside (Some table) o) c → HasTypesFault (types_given file functions new targets) (section_infos_beside (Some new) o) c)
    × (HasTypesFault (types_given file functions new targets) (section_infos_beside (Some new) o) c → HasTypesFault (types_given file functions table targets) (section_infos_beside (Some table) o) c)
refused-by law file functions table new targets None a c = law.refused (types_given file functions table targets) new _ a c
refused-by law file functions table new targets (Some x) a c = law.refused (types_given file functions table targets) new x.relocations a c

-- The results of type relocations are the same with other types.
record Moves (k : List Table) (s : State) (types : Option Table) : Type 0 where
  relocated : (to : List ((ℕ × ℕ) × FunctionContent)) → AreRelocated (types_of s k) (type_section_infos s) to → AreRelocated (types_of (retyped s types) k) (type_section_infos (retyped s types)) to
  back : (to : List ((ℕ × ℕ) × FunctionContent)) → AreRelocated (types_of (retyped s types) k) (type_section_infos (retyped s types)) to → AreRelocated (types_of s k) (type_section_infos s) to
  refused : (c : BtfRelocationCause) → HasTypesFault (types_of s k) (type_section_infos s) c → HasTypesFault (types_of (retyped s types) k) (type_section_infos (retyped s types)) c
  refused-back : (c : BtfRelocationCause) → HasTypesFault (types_of (retyped s types) k) (type_section_infos (retyped s types)) c → HasTypesFault (types_of s k) (type_section_infos s) c

moves : (law : RelocationsRest) (answers : Answers) (k : List Table) (s : State) (types : Option Table) → Agree answers s → IsRewritten answers s.file s.externs.ksyms s.types types → Moves k s types
moves law answers k s types agree rewritten = by s.types types refl rewritten where
  by : (o types : Option Table) → s.types ≡ o → IsRewritten answers s.file s.externs.ksyms o types → Moves k (retyped s o) types
  by None None e h = record { relocated = λ to r. r; back = λ to r. r; refused = λ c r. r; refused-back = λ c r. r }
  by (Some table) (Some new) e h =
      let a : AgreeOnReach table new (section_infos_beside (Some table) s.extension) = subst (λ (o : Option Table). AgreeOnReach table new (section_infos_beside o s.extension)) e (agree table new e h) in
      record {
        relocated = λ to. (relocated-by law s.file s.functions table new k s.extension a to).0;
        back = λ to. (relocated-by law s.file s.functions table new k s.extension a to).1;
        refused = λ c. (refused-by law s.file s.functions table new k s.extension a c).0;
        refused-back = λ c. (refused-by law s.file s.functions table new k s.extension a c).1;
      }
  by None (Some new) e h = elim h [ ]
  by (Some table) None e h = elim h [ ]

-- The two passes.

exchange : (law : RelocationsRest) (answers : Answers) (k : List Table) (s m t : State) → Agree answers s → RelocatesTypes k s m → RewritesTypes answers m t
    → (n : State) × RewritesTypes answers s n × RelocatesTypes k n t
exchange law answers k s m t agree first second =
    let rewritten : IsRewritten answers s.file s.externs.ksyms s.types t.types =
    subst (λ (x : State). IsRewritten answers x.file x.externs.ksyms x.types t.types) first.others second.types in
    let moved = moves law answers k s t.types agree rewritten in
    let functions : t.functions ≡ m.functions = ap (λ (x : State). x.functions) second.others in (
      retyped s t.types,
      record { types = rewritten; others = refl },
      record {
        functions = subst (AreRelocated (types_of (retyped s t.types) k) (type_section_infos (retyped s t.types))) (sym functions) (moved.relocated m.functions first.functions);
        sound = record { none = λ c h. first.sound.none c (moved.refused-back c h) };
        others =
            second.others ∙ ap (λ (x : State). record x { types = t.types }) first.others
            ∙ ap (λ (f : List ((ℕ × ℕ) × FunctionContent)). record (retyped s t.types) { functions = f }) (sym functions);
      },
    )

exchange-back : (law : RelocationsRest) (answers : Answers) (k : List Table) (s n t : State) → Agree answers s → RewritesTypes answers s n → RelocatesTypes k n t
    → (m : State) × RelocatesTypes k s m × RewritesTypes answers m t
exchange-back law answers k s n t agree first second =
    let moved = moves law answers k s n.types agree first.types in
    let types : t.types ≡ n.types = ap (λ (x : State). x.types) second.others in
    let relocated = subst (λ (x : State). AreRelocated (types_of x k) (type_section_infos x) t.functions) first.others second.functions in
    let sound : CanBeRelocated (types_of (retyped s n.types) k) (type_section_infos (retyped s n.types)) = subst (λ (x : State). CanBeRelocated (types_of x k) (type_section_infos x)) first.others second.sound in (
      record s { functions = t.functions },
      record {
        functions = moved.back t.functions relocated;
        sound = record { none = λ c h. sound.none c (moved.refused c h) };
        others = refl;
      },
      record {
        types = subst (IsRewritten answers s.file s.externs.ksyms s.types) (sym types) first.types;
        others =
            second.others ∙ ap (λ (x : State). record x { functions = t.functions }) first.others
            ∙ ap (λ (o : Option Table). record s { functions = t.functions; types = o }) (sym types);
      },
    )

-- The passes before the two passes.

-- An object after passes that keep its file, its types and the records of `.BTF.ext`.
record Left (object s : State) : Type 0 where
  file : s.file ≡ object.file
  types : s.types ≡ object.types
  ksyms : s.externs.ksyms ≡ object.externs.ksyms
  extension : s.extension ≡ object.extension

ksyms-stay : (kernel : Option Table) (symbols : Symbols) (old new : ExternsContent) (o : Option Table)
    → MatchOption o (new ≡ old) (λ table. AreResolved table kernel symbols.bytes symbols.failed old new) → new.ksyms ≡ old.ksyms
ksyms-stay kernel symbols old new None same = ap (λ (x : ExternsContent). x.ksyms) same
ksyms-stay kernel symbols old new (Some table) resolved = resolved.section

-- The passes before keep everything that type relocations depend on.
left-by : (i : Inputs) (u : Under) (object a b c d s : State) → Makes FunctionRecords i u object a → Makes MapNumbers i u a b → Makes GlobalValues i u b c → Makes KernelTypes i u c d → Makes Externs i u d s → Left object s
left-by i u object a b c d s records numbers values types externs = record {
  file = ap (λ (x : State). x.file) externs.others ∙ ap (λ (x : State). x.file) types.1 ∙ ap (λ (x : State). x.file) values.maps ∙ ap (λ (x : State). x.file) numbers.1 ∙ ap (λ (x : State). x.file) records.1;
  types = ap (λ (x : State). x.types) externs.others ∙ ap (λ (x : State). x.types) types.1 ∙ ap (λ (x : State). x.types) values.maps ∙ ap (λ (x : State). x.types) numbers.1 ∙ ap (λ (x : State). x.types) records.1;
  ksyms = ksyms-stay (first_table i) i.symbols d.externs s.externs d.types externs.externs ∙ ap (λ (x : State). x.externs.ksyms) types.1 ∙ ap (λ (x : State). x.externs.ksyms) values.maps ∙ ap (λ (x : State). x.externs.ksyms) numbers.1 ∙ ap (λ (x : State). x.externs.ksyms) records.1;
  extension = ap (λ (x : State). x.extension) externs.others ∙ ap (λ (x : State). x.extension) types.1 ∙ ap (λ (x : State). x.extension) values.maps ∙ ap (λ (x : State). x.extension) numbers.1 ∙ ap (λ (x : State). x.extension) records.1;
}

agree-after : (answers : Answers) (object s : State) → IsOrderFree answers object → Left object s → Agree answers s
agree-after answers object s free left table new e rewritten =
    let known : object.types ≡ Some table = sym left.types ∙ e in
    let in-file = subst (λ file. IsRewritten answers file s.externs.ksyms (Some table) (Some new)) left.file rewritten in
    let there = subst (λ ksyms. IsRewritten answers object.file ksyms (Some table) (Some new)) left.ksyms in-file in
    let section_infos : type_section_infos s ≡ type_section_infos object = ap (λ (o : Option Table). section_infos_beside o s.extension) left.types ∙ ap (section_infos_beside object.types) left.extension in
    subst (AgreeOnReach table new) (sym section_infos)
    (agree table new (type_section_infos object) (free.readable table known) (free.stays table new known there)
    (texts-stay answers object.file object.externs.ksyms table new (length table.types == 0) there))

to-rewrite-first : (law : RelocationsRest) (i : Inputs) (u : Under) (object s : State) → IsOrderFree u.answers object
    → Made (patching RelocateFirst) i u object s → Made (patching RewriteFirst) i u object s
to-rewrite-first law i u object s free one =
    let two = one.2 in
    let three = two.2 in
    let four = three.2 in
    let five = four.2 in
    let six = five.2 in
    let seven = six.2 in
    let left = left-by i u object one.0 two.0 three.0 four.0 five.0 one.1 two.1 three.1 four.1 five.1 in
    let other = exchange law u.answers i.kernel_types five.0 six.0 seven.0 (agree-after u.answers object five.0 free left) six.1 seven.1 in
    (one.0, one.1, (two.0, two.1, (three.0, three.1, (four.0, four.1, (five.0, five.1, (other.0, other.1, (seven.0, other.2, seven.2)))))))

to-relocate-first : (law : RelocationsRest) (i : Inputs) (u : Under) (object s : State) → IsOrderFree u.answers object
    → Made (patching RewriteFirst) i u object s → Made (patching RelocateFirst) i u object s
to-relocate-first law i u object s free one =
    let two = one.2 in
    let three = two.2 in
    let four = three.2 in
    let five = four.2 in
    let six = five.2 in
    let seven = six.2 in
    let left = left-by i u object one.0 two.0 three.0 four.0 five.0 one.1 two.1 three.1 four.1 five.1 in
    let other = exchange-back law u.answers i.kernel_types five.0 six.0 seven.0 (agree-after u.answers object five.0 free left) six.1 seven.1 in
    (one.0, one.1, (two.0, two.1, (three.0, three.1, (four.0, four.1, (five.0, five.1, (other.0, other.1, (seven.0, other.2, seven.2)))))))

-- The passes that were made in one order are made in another.
pub made-in : (law : RelocationsRest) (from to : Order) (i : Inputs) (u : Under) (object s : State) → IsOrderFree u.answers object
    → Made (patching from) (in_order from i) u object s → Made (patching to) (in_order to i) u object s
made-in law RelocateFirst RelocateFirst i u object s free made = made
made-in law RelocateFirst RewriteFirst i u object s free made = to-rewrite-first law i u object s free made
made-in law RewriteFirst RelocateFirst i u object s free made = to-relocate-first law i u object s free made
made-in law RewriteFirst RewriteFirst i u object s free made = made

plan-in : (law : RelocationsRest) (from to : Order) (i : Inputs) (u : Under) (object : State) → IsOrderFree u.answers object → (plan : PlanContent)
    → IsMadePlan (in_order from i) u object plan → IsMadePlan (in_order to i) u object plan
plan-in law from to i u object free plan p = record {
  patched = p.patched;
  patching = made-in law from to i u object p.patched free p.patching;
  final = p.final;
  linking = p.linking;
  is = p.is;
}

pub orders_agree : RelocationsRest → OrdersAgree
orders_agree law = record {
  each = λ i u object free plan. (plan-in law RelocateFirst RewriteFirst i u object free plan, plan-in law RewriteFirst RelocateFirst i u object free plan);
}

-- Refusals.

-- A refusal after passes that are made, where other passes come next.
lift : (ps qs rs : List Pass) (i : Inputs) (u : Under) (object : State) (e : PrepareError) (W : State → Type 0)
    → ((s : State) → Made ps i u object s → Refused qs i u s e → Refused rs i u s e ⊎ W s)
    → Refused (ps ++ qs) i u object e → Refused (ps ++ rs) i u object e ⊎ ((s : State) × Made ps i u object s × W s)
lift [] qs rs i u object e W change refused = by (change object refl refused) where
  by : Refused rs i u object e ⊎ W object → Refused rs i u object e ⊎ ((s : State) × (s ≡ object) × W s)
  by (inl x) = inl x
  by (inr w) = inr (object, refl, w)
lift (p ∷ ps) qs rs i u object e W change (inl x) = inl (inl x)
lift (p ∷ ps) qs rs i u object e W change (inr there) =
    by (lift ps qs rs i u there.0 e W (λ s made. change s (there.0, there.1, made)) there.2) where
      by : Refused (ps ++ rs) i u there.0 e ⊎ ((s : State) × Made ps i u there.0 s × W s) → Refused ((p ∷ ps) ++ rs) i u object e ⊎ ((s : State) × Made (p ∷ ps) i u object s × W s)
      by (inl x) = inl (inr (there.0, there.1, x))
      by (inr y) = inr (y.0, (there.0, there.1, y.1), y.2)

of-relocation : (Stands Other : BtfRelocationCause → Type 0) → ((c : BtfRelocationCause) → Stands c → Other c) → (e : PrepareError) → OfTypeRelocation Stands e → OfTypeRelocation Other e
of-relocation Stands Other more (error.BtfRelocation e) stands = more e.error stands
of-relocation Stands Other more _ stands = absurd stands

-- Where the first pass over types is made, the second refuses.
abbrev Second : Order → (BtfFeature → Bool) → Inputs → PrepareError → State → Type 0
Second order grants i e s =
    (v : Under) (t : State) → GoByFeature grants v.answers → Makes (first_of order) i v s t → (w : Under) × GoByFeature grants w.answers × Refuses (second_of order) i w t e

abbrev after-types : List Pass
after-types = MapSlots ∷ ExternSlots ∷ linking

-- A refusal after passes that are made.
after-made : (ps qs : List Pass) (i : Inputs) (u : Under) (object s : State) (e : PrepareError)
    → Made ps i u object s → Refused qs i u s e → Refused (ps ++ qs) i u object e
after-made [] qs i u object s e made refused = subst (λ (x : State). Refused qs i u x e) made refused
after-made (p ∷ ps) qs i u object s e made refused =
    inr (made.0, made.1, after-made ps qs i u made.0 s e made.2 refused)

-- Where the second pass over types refuses what the first makes, it can't be that no pass refuses.

rewriting-first-refuses : (grants : BtfFeature → Bool) (i : Inputs) (u : Under) (object s : State) (e : PrepareError)
    → Made checking i u object s → Second RewriteFirst grants i e s
    → ((fault : PrepareError) → IsRefusedIn RewriteFirst grants i object fault → ⊥) → ⊥
rewriting-first-refuses grants i u object s e made second none =
    let first = rewriting_made grants s (λ answers f goes cannot.
    let v : Under = record { answers = answers; has_helpers = None } in
    none (error.Types f) (v, goes, after-made checking (Types ∷ TypeSlots ∷ after-types) i v object s (error.Types f) made (inl cannot))) in
    let v : Under = record { answers = first.0; has_helpers = None } in
    let refused = second v first.2.0 first.1 first.2.1 in
    none e (v, first.1, after-made checking (Types ∷ TypeSlots ∷ after-types) i v object s e made (inr (first.2.0, first.2.1, inl refused.2)))

relocating-first-refuses : (grants : BtfFeature → Bool) (i : Inputs) (u : Under) (object s : State) (e : PrepareError)
    → Made checking i u object s → Second RelocateFirst grants i e s
    → ((fault : PrepareError) → IsRefusedIn RelocateFirst grants i object fault → ⊥) → ⊥
relocating-first-refuses grants i u object s e made second none =
    let first = relocating_made i.kernel_types s (λ c cannot.
    let fault : PrepareError = error.BtfRelocation (record { section = None; place = SectionInfo; error = c }) in
    none fault (unanswered, tt, after-made checking (TypeSlots ∷ Types ∷ after-types) i unanswered object s fault made (inl cannot))) in
    let refused = second unanswered first.0 tt first.1 in
    none e (refused.0, refused.1, after-made checking (TypeSlots ∷ Types ∷ after-types) i refused.0 object s e made (inr (first.0, first.1, inl refused.2)))

some-fault : (order : Order) (grants : BtfFeature → Bool) (i : Inputs) (u : Under) (object s : State) (e : PrepareError)
    → Made checking i u object s → Second order grants i e s
    → ((fault : PrepareError) → IsRefusedIn order grants i object fault → ⊥) → ⊥
some-fault RewriteFirst grants i u object s e made second none = rewriting-first-refuses grants i u object s e made second none
some-fault RelocateFirst grants i u object s e made second none = relocating-first-refuses grants i u object s e made second none

module _ (law : RelocationsRest) (grants : BtfFeature → Bool) (i : Inputs) (u : Under) (goes : GoByFeature grants u.answers) (object : State) (free : IsOrderFreeFor grants object) (e : PrepareError) where
  agrees : (v : Under) → GoByFeature grants v.answers → (s : State) → Made checking i u object s → Agree v.answers s
  agrees v by-feature s made =
      agree-after v.answers object s (free.each v.answers by-feature)
      (subst (Left object) (sym made.2.2.2.2.2)
      (left-by i u object made.0 made.2.0 made.2.2.0 made.2.2.2.0 made.2.2.2.2.0 made.1 made.2.1 made.2.2.1 made.2.2.2.1 made.2.2.2.2.1))

  relocating-refuses : (s m : State) (v : Under) → Agree v.answers s → RewritesTypes v.answers s m → OfTypeRelocation (CannotRelocateTypes i.kernel_types s) e → OfTypeRelocation (CannotRelocateTypes i.kernel_types m) e
  relocating-refuses s m v agreed rewritten refused =
      subst (λ (x : State). OfTypeRelocation (CannotRelocateTypes i.kernel_types x) e) (sym rewritten.others)
      (of-relocation (CannotRelocateTypes i.kernel_types s) (CannotRelocateTypes i.kernel_types (retyped s m.types)) (moves law v.answers i.kernel_types s m.types agreed rewritten.types).refused e refused)

  relocating-refused : (s m : State) → Agree u.answers s → RewritesTypes u.answers s m → OfTypeRelocation (CannotRelocateTypes i.kernel_types m) e → OfTypeRelocation (CannotRelocateTypes i.kernel_types s) e
  relocating-refused s m agreed rewritten refused =
      of-relocation (CannotRelocateTypes i.kernel_types (retyped s m.types)) (CannotRelocateTypes i.kernel_types s) (moves law u.answers i.kernel_types s m.types agreed rewritten.types).refused-back e
      (subst (λ (x : State). OfTypeRelocation (CannotRelocateTypes i.kernel_types x) e) rewritten.others refused)

  -- The fault of the types is that of the object before its relocations.
  rewriting-refuses : (s m : State) → m ≡ record s { functions = m.functions } → OfTypes (CannotRewrite u.answers s.file s.externs.ksyms s.types) e → OfTypes (CannotRewrite u.answers m.file m.externs.ksyms m.types) e
  rewriting-refuses s m others refused = subst (λ (x : State). OfTypes (CannotRewrite u.answers x.file x.externs.ksyms x.types) e) (sym others) refused

  rewriting-refused : (s m : State) → m ≡ record s { functions = m.functions } → OfTypes (CannotRewrite u.answers m.file m.externs.ksyms m.types) e → OfTypes (CannotRewrite u.answers s.file s.externs.ksyms s.types) e
  rewriting-refused s m others refused = subst (λ (x : State). OfTypes (CannotRewrite u.answers x.file x.externs.ksyms x.types) e) others refused

  rewrite-first : (s : State) → Made checking i u object s → Refused (TypeSlots ∷ Types ∷ after-types) i u s e → Refused (Types ∷ TypeSlots ∷ after-types) i u s e ⊎ Second RewriteFirst grants i e s
  rewrite-first s made (inl refused) = inr (λ v t by-feature rewritten. (v, by-feature, relocating-refuses s t v (agrees v by-feature s made) rewritten refused))
  rewrite-first s made (inr relocated) = by relocated.2 where
    by : Refused (Types ∷ after-types) i u relocated.0 e → Refused (Types ∷ TypeSlots ∷ after-types) i u s e ⊎ Second RewriteFirst grants i e s
    by (inl refused) = inl (inl (rewriting-refused s relocated.0 relocated.1.others refused))
    by (inr rest) =
        let other = exchange law u.answers i.kernel_types s relocated.0 rest.0 (agrees u goes s made) relocated.1 rest.1 in
        inl (inr (other.0, other.1, inr (rest.0, other.2, rest.2)))

  relocate-first : (s : State) → Made checking i u object s → Refused (Types ∷ TypeSlots ∷ after-types) i u s e → Refused (TypeSlots ∷ Types ∷ after-types) i u s e ⊎ Second RelocateFirst grants i e s
  relocate-first s made (inl refused) = inr (λ v t by-feature relocated. (u, goes, rewriting-refuses s t relocated.others refused))
  relocate-first s made (inr rewritten) = by rewritten.2 where
    by : Refused (TypeSlots ∷ after-types) i u rewritten.0 e → Refused (TypeSlots ∷ Types ∷ after-types) i u s e ⊎ Second RelocateFirst grants i e s
    by (inl refused) = inl (inl (relocating-refused s rewritten.0 (agrees u goes s made) rewritten.1 refused))
    by (inr rest) =
        let other = exchange-back law u.answers i.kernel_types s rewritten.0 rest.0 (agrees u goes s made) rewritten.1 rest.1 in
        inl (inr (other.0, other.1, inr (rest.0, other.2, rest.2)))

  either : (order : Order) → Refused (passes order) i u object e ⊎ ((s : State) × Made checking i u object s × Second order grants i e s) → RefusesToo order grants i object e
  either order (inl refused) = inl (u, goes, refused)
  either order (inr y) = inr (record { under = u; checked = y.0; checking = y.1; refused = y.2; some = some-fault order grants i u object y.0 e y.1 y.2 })

  -- A refusal in one order is a refusal in another.
  pub refused-in : (from to : Order) → Refused (passes from) i u object e → RefusesToo to grants i object e
  refused-in RelocateFirst RelocateFirst refused = inl (u, goes, refused)
  refused-in RelocateFirst RewriteFirst refused =
      either RewriteFirst (lift checking (TypeSlots ∷ Types ∷ after-types) (Types ∷ TypeSlots ∷ after-types) i u object e (Second RewriteFirst grants i e) rewrite-first refused)
  refused-in RewriteFirst RelocateFirst refused =
      either RelocateFirst (lift checking (Types ∷ TypeSlots ∷ after-types) (TypeSlots ∷ Types ∷ after-types) i u object e (Second RelocateFirst grants i e) relocate-first refused)
  refused-in RewriteFirst RewriteFirst refused = inl (u, goes, refused)

-- The refusal of an object, in both orders.
pub pass-refusal : {F : Type 0} {predicate : Predicate F} {before : F} → RelocationsRest → (i : Inputs) (object : State) (e : PrepareError) → IsWholeObject i.file object → IsRefusedObject predicate before i object e → IsPassRefusal predicate before i e
pass-refusal law i object e whole refused = record {
  object = object;
  whole = whole;
  refused = refused;
  orders = λ grants goes free order. refused-in law grants i refused.under goes object free e i.order order refused.refused;
}

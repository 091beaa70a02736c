-- The plan of an object after all passes.
use Rattle.std.proofs.Common.{◌≡◌, ◌==◌, ◌≤◌, ℕ, List, [], length, map, Bool, true, false, Option, None, Some, refl, sym, ap, ◌∙◌, subst, arith}
use Rattle.std.specs.Option.{MatchOption}
use Rattle.std.specs.Prelude.{is_some}
use Rattle.btf_records.specs.declared.feature.BtfFeature.{BtfFeature}
use Rattle.btf_sanitize.specs.Answers.{Answers, AreDistinct, features, times}
use Rattle.btf_tables.specs.Tables.{Table}
use Rattle.elf64.specs.Relocations.{Relocation}
use Rattle.ebpf_object.specs.TextSections.{text_sections}
use Rattle.ebpf_object.specs.Helpers.{for_kernel}
use Rattle.ebpf_object.specs.Rewriting.{IsRewritten, IsRewrittenIf}
use Rattle.ebpf_object.specs.TypeRelocations.{type_section_infos, types_of}
use Rattle.slot_relocation.specs.ExternLaws.{ExternsAreWritten}
use Rattle.extern_resolution.specs.Resolution.{AreResolved}
use Rattle.object_externs.specs.Externs.{ExternsContent}
use Rattle.linker.specs.Copies.{SlotsAreCopied}
use Rattle.linker.specs.Layout.{Key, has}
use Rattle.linker.specs.Renamed.{RenamedVisitsSame}
use Rattle.linker.specs.Theorems.{ReachedAreAppended}
use Rattle.linker.specs.Linked.{IsLinkedIn, program_keys}
use Rattle.object_parts.specs.Content.{FunctionContent, ProgramContent}
use Rattle.load_plan.specs.ContentsLaws.{HaveRecordsOf, NamesAreCarried, RecordsName}
use Rattle.load_plan.specs.Plans.{AllNamed, HoldsTypeBytes, plan_of, plan_program_of, type_bytes}
use Rattle.load_plan.specs.PlanMaps.{plan_map}
use Rattle.plan_text.specs.Content.{MapContent, PlanContent}
use Rattle.plan_text.specs.Content as plan
use Rattle.slot_relocation.specs.Laws.{NumbersAreWritten, map_of}
use Rattle.slot_relocation.specs.Maps.{NumberedMap, map_rule}
use Rattle.slot_relocation.specs.Writes.{relocated}
use Rattle.core_relocation.specs.Laws.{RelocationsRest, TypesAreWritten}
use Rattle.core_relocation.specs.Writes.{with_types}
use Rattle.load_plan.specs.Inputs.{Inputs, Predicate, State, Symbols, Under, in_order, keeps_helpers}
use Rattle.load_plan.specs.Made.{IsMade}
use Rattle.load_plan.specs.PassLaws.{PassLaws}
use Rattle.load_plan.specs.Passes.{Made, ResolvesExterns, first_table, linking, maps_given, patching, rule_of_externs, unlinked_of}
use Rattle.load_plan.specs.Granted.{AreGranted}
use Rattle.load_plan.specs.Planned.{IsPlanOf, IsPlannedObject}
use Rattle.load_plan.specs.Programs.{ArePlanPrograms, HasMap, before_slots, relocating_in}
use Rattle.load_plan.proofs.Carried.{Stands}
use Rattle.load_plan.proofs.Changes.{Changes, Linked, changes_of, linked_of}
use Rattle.load_plan.proofs.Exchange.{made-in}
use Rattle.load_plan.proofs.Names.{names, records_of, records_through}
use Rattle.load_plan.proofs.Numbers.{named_maps}
use Rattle.load_plan.proofs.Granted.{granted_of}
use Rattle.load_plan.proofs.Programs.{Known, planned_programs}

abbrev Keyed : Type 0
Keyed = List (Key × FunctionContent)

module _ (i : Inputs) (u : Under) (s t resolved typed mapped relocating : State) (c : Changes i u s t resolved typed mapped relocating) where
  -- The parts of an object that are unchanged until its programs are linked.
  same_functions : relocating.functions ≡ s.functions
  same_functions =
      c.types.before ∙ ap (λ (o : State). o.functions) c.externs.others ∙ ap (λ (o : State). o.functions) c.values.maps

  same_programs : t.programs ≡ s.programs
  same_programs =
      ap (λ (o : State). o.programs) c.slots.others ∙ ap (λ (o : State). o.programs) c.numbers.others
      ∙ ap (λ (o : State). o.programs) c.types.others ∙ ap (λ (o : State). o.programs) c.externs.others ∙ ap (λ (o : State). o.programs) c.values.maps

  same_types : resolved.types ≡ s.types
  same_types = ap (λ (o : State). o.types) c.externs.others ∙ ap (λ (o : State). o.types) c.values.maps

  same_maps : t.maps ≡ typed.maps
  same_maps = ap (λ (o : State). o.maps) c.slots.others ∙ ap (λ (o : State). o.maps) c.numbers.others

  typed_types : t.types ≡ typed.types
  typed_types = ap (λ (o : State). o.types) c.slots.others ∙ ap (λ (o : State). o.types) c.numbers.others

  stands_of : PassLaws → Stands i s (record { types = relocating; numbers = typed; externs = mapped }) t
  stands_of laws = record {
    same = same_functions;
    types = laws.types.each (types_of relocating i.kernel_types) (type_section_infos relocating) typed.functions c.types.written;
    numbers = laws.written.each (maps_given i.settings typed) typed.functions mapped.functions c.numbers.functions;
    externs = laws.externs.each mapped.file mapped.externs.by_name mapped.functions t.functions c.slots.functions;
  }

  same_records_of : HaveRecordsOf s.functions t.functions
  same_records_of =
      subst (λ (fs : Keyed). HaveRecordsOf fs t.functions) same_functions
      (records_through relocating.functions typed.functions t.functions
      (records_of (with_types (types_of relocating i.kernel_types) (type_section_infos relocating)) relocating.functions typed.functions (λ f. refl) c.types.written)
      (records_through typed.functions mapped.functions t.functions
      (records_of (relocated (map_rule (maps_given i.settings typed)) typed.file) typed.functions mapped.functions (λ f. refl) c.numbers.functions)
      (records_of (relocated (rule_of_externs mapped) mapped.file) mapped.functions t.functions (λ f. refl) c.slots.functions)))

-- The section of externs is unchanged while they are resolved.
same_section_by : (kernel : Option Table) (symbols : Symbols) (types : Option Table) (old new : ExternsContent) → MatchOption types (new ≡ old) (λ table. AreResolved table kernel symbols.bytes symbols.failed old new) → new.ksyms ≡ old.ksyms
same_section_by kernel symbols None old new are = ap (λ (e : ExternsContent). e.ksyms) are
same_section_by kernel symbols (Some table) old new are = are.section

same_section : (kernel : Option Table) (symbols : Symbols) (s t : State) → ResolvesExterns kernel symbols s t → t.externs.ksyms ≡ s.externs.ksyms
same_section kernel symbols s t are = same_section_by kernel symbols s.types s.externs t.externs are.externs

among_maps : (i : Inputs) (u : Under) (s t typed : State) (l : Linked u s t) (maps : List MapContent) → maps ≡ map (plan_map i.settings) t.maps → s.maps ≡ typed.maps → (r : Relocation) (m : NumberedMap) → map_of (maps_given i.settings typed) r ≡ Some m → HasMap maps m
among_maps i u s t typed l maps is same r m named =
    subst (λ (ps : List MapContent). HasMap ps m) (sym (is ∙ ap (λ (o : State). map (plan_map i.settings) o.maps) l.helpers.functions ∙ ap (λ (o : State). map (plan_map i.settings) o.maps) l.links.others ∙ ap (map (plan_map i.settings)) same))
    (named_maps i.settings typed.maps typed.file (text_sections typed.functions) r m named)

-- The parts of an object that are unchanged while its programs are linked.
types_stay : (u : Under) (s t : State) (l : Linked u s t) → t.types ≡ s.types
types_stay u s t l = ap (λ (o : State). o.types) l.helpers.functions ∙ ap (λ (o : State). o.types) l.links.others

programs_stay : (u : Under) (s t : State) (l : Linked u s t) → t.programs ≡ s.programs
programs_stay u s t l = ap (λ (o : State). o.programs) l.helpers.functions ∙ ap (λ (o : State). o.programs) l.links.others

functions_are : (u : Under) (s t : State) (l : Linked u s t) → t.functions ≡ for_kernel (keeps_helpers u) l.linked.functions
functions_are u s t l = ap (λ (o : State). o.functions) l.helpers.functions

-- The programs of the plan, by those of the object.
abbrev plan_programs : Under → State → Keyed → List (List ℕ × ProgramContent) → List plan.ProgramContent
plan_programs u t functions programs = map (plan_program_of u.answers (is_some (type_bytes t.types)) functions) programs

names_of : RecordsName → NamesAreCarried → (i : Inputs) (u : Under) (object s t resolved typed mapped relocating : State) (c : Changes i u object s resolved typed mapped relocating) (l : Linked u s t) → HoldsTypeBytes t.types (type_bytes t.types) → AllNamed object.types (type_bytes t.types) (plan_programs u t t.functions object.programs)
names_of records carry i u object s t resolved typed mapped relocating c l holds =
    let stay = types_stay u s t l ∙ typed_types i u object s resolved typed mapped relocating c in
    subst (λ (fs : Keyed). AllNamed object.types (type_bytes t.types) (plan_programs u t fs object.programs)) (sym (functions_are u s t l))
    (names records carry resolved.file resolved.externs.ksyms object.types typed.types u.answers (keeps_helpers u) (type_bytes t.types)
    object.functions s.functions l.linked.functions (unlinked_of s) (program_keys s.programs) object.programs
    c.named
    (subst (λ (old : Option Table). IsRewritten u.answers resolved.file resolved.externs.ksyms old typed.types) (same_types i u object s resolved typed mapped relocating c) c.types.rewritten)
    (ap type_bytes stay)
    (subst (λ (new : Option Table). HoldsTypeBytes new (type_bytes t.types)) stay holds)
    (same_records_of i u object s resolved typed mapped relocating c) refl l.links.programs)

-- The plan of an object after all passes.
abbrev plan_under : Inputs → Under → State → PlanContent
plan_under i u t = plan_of u.answers (map (plan_map i.settings) t.maps) t

known_of : PassLaws → (i : Inputs) (u : Under) (object s t : State) (made : Made (patching i.order) i u object s) (l : Linked u s t) → Known i u object s (before_slots i u object s made) (plan_under i u t) t.functions l.linked.functions
known_of laws i u object s t made l =
    let resolved = made.2.2.2.2.0 in
    let typed = made.2.2.2.2.2.2.0 in
    let mapped = made.2.2.2.2.2.2.2.0 in
    let relocating = relocating_in i.order made.2.2.2.2.0 made.2.2.2.2.2.0 in
    let c = changes_of i u object s made in
    record {
      reach = laws.reach;
      renamed = laws.renamed;
      copies = laws.copies;
      is = functions_are u s t l;
      stands = stands_of i u object s resolved typed mapped relocating c laws;
      among = among_maps i u s t typed l (map (plan_map i.settings) t.maps) refl (same_maps i u object s resolved typed mapped relocating c);
    }

programs_of : PassLaws → (i : Inputs) (u : Under) (object s t : State) (made : Made (patching i.order) i u object s) (l : Linked u s t) → HoldsTypeBytes t.types (type_bytes t.types) → ArePlanPrograms i u object s (before_slots i u object s made) (plan_under i u t) object.programs (plan_programs u t t.functions t.programs)
programs_of laws i u object s t made l holds =
    let resolved = made.2.2.2.2.0 in
    let typed = made.2.2.2.2.2.2.0 in
    let mapped = made.2.2.2.2.2.2.2.0 in
    let relocating = relocating_in i.order made.2.2.2.2.0 made.2.2.2.2.2.0 in
    let c = changes_of i u object s made in
    let same = same_programs i u object s resolved typed mapped relocating c in
    subst (λ (ps : List (List ℕ × ProgramContent)). ArePlanPrograms i u object s (before_slots i u object s made) (plan_under i u t) object.programs (plan_programs u t t.functions ps))
    (sym (programs_stay u s t l ∙ same))
    (planned_programs i u object s (before_slots i u object s made) (plan_under i u t) t.functions l.linked.functions (known_of laws i u object s t made l) object.programs
    (subst (λ (ps : List (List ℕ × ProgramContent)). (key : Key) → has (program_keys ps) key ≡ true → IsLinkedIn (unlinked_of s) l.linked.functions key) same l.links.programs.programs)
    (names_of laws.records laws.carry i u object s t resolved typed mapped relocating c l holds))

granted : (i : Inputs) (u : Under) (object s t resolved typed mapped relocating : State) (c : Changes i u object s resolved typed mapped relocating) (l : Linked u s t) → AreGranted u.answers object.externs.ksyms object.types t.types
granted i u object s t resolved typed mapped relocating c l =
    subst (λ (new : Option Table). AreGranted u.answers object.externs.ksyms object.types new) (sym (types_stay u s t l ∙ typed_types i u object s resolved typed mapped relocating c))
    (subst (λ (old : Option Table). AreGranted u.answers object.externs.ksyms old typed.types) (same_types i u object s resolved typed mapped relocating c)
    (subst (λ (ksyms : Option (ℕ × Option ℕ)). AreGranted u.answers ksyms resolved.types typed.types)
    (same_section (first_table i) i.symbols c.valued resolved c.externs ∙ ap (λ (o : State). o.externs.ksyms) c.values.maps)
    (granted_of u.answers resolved.file resolved.externs.ksyms resolved.types typed.types c.types.rewritten)))

plan_is : PassLaws → (i : Inputs) (u : Under) (object s t : State) (made : Made (patching i.order) i u object s) (joined : Made linking i u s t) → HoldsTypeBytes t.types (type_bytes t.types) → IsPlanOf i u object (plan_under i u t)
plan_is laws i u object s t made joined holds =
    let c = changes_of i u object s made in
    let l = linked_of i u s t joined in
    record {
      patched = s;
      patching = made;
      final = t;
      linking = joined;
      is = refl;
      types = holds;
      granted = granted i u object s t made.2.2.2.2.0 made.2.2.2.2.2.2.0 made.2.2.2.2.2.2.2.0 (relocating_in i.order made.2.2.2.2.0 made.2.2.2.2.2.0) c l;
      programs = programs_of laws i u object s t made l holds;
    }

planned : PassLaws → (i : Inputs) (u : Under) (object s t : State) (plan : PlanContent) → Made (patching i.order) i u object s → Made linking i u s t → plan ≡ plan_under i u t → HoldsTypeBytes t.types plan.type_bytes → IsPlanOf i u object plan
planned laws i u object s t plan made joined is holds =
    subst (λ (p : PlanContent). IsPlanOf i u object p) (sym is)
    (plan_is laws i u object s t made joined
    (subst (λ (bytes : Option (List ℕ)). HoldsTypeBytes t.types bytes) (ap (λ (p : PlanContent). p.type_bytes) is) holds))

-- Each feature was asked about at most once.
none_twice : (f : BtfFeature) → times f [] ≤ 1
none_twice f = omega arith

distinct_if : (b : Bool) (answers : Answers) (file : List ℕ) (ksyms : Option (ℕ × Option ℕ)) (old new : Table) → IsRewrittenIf b answers file ksyms old new → AreDistinct (features answers)
distinct_if true answers file ksyms old new are = subst (λ (l : Answers). AreDistinct (features l)) (sym are.unasked) (record { once = none_twice })
distinct_if false answers file ksyms old new are = are.asked.once

distinct_in : (answers : Answers) (file : List ℕ) (ksyms : Option (ℕ × Option ℕ)) (old new : Option Table) → IsRewritten answers file ksyms old new → AreDistinct (features answers)
distinct_in answers file ksyms (Some old) (Some new) are = distinct_if (length old.types == 0) answers file ksyms old new are
distinct_in answers file ksyms None None are = subst (λ (l : Answers). AreDistinct (features l)) (sym are.unasked) (record { once = none_twice })
distinct_in answers file ksyms (Some old) None are = absurd are
distinct_in answers file ksyms None (Some new) are = absurd are

distinct : (i : Inputs) (u : Under) (object s : State) → Made (patching i.order) i u object s → AreDistinct (features u.answers)
distinct i u object s made =
    let resolved = made.2.2.2.2.0 in
    let typed = made.2.2.2.2.2.2.0 in
    let c = changes_of i u object s made in
    distinct_in u.answers resolved.file resolved.externs.ksyms resolved.types typed.types c.types.rewritten

-- The result of all passes over an object.
module _ {F : Type 0} {predicate : Predicate F} {before : F} {Says : Bool → Type 0} {i : Inputs} {answers : Answers} {object final : State} (made : IsMade predicate before Says i answers object final) where
  pub distinct_made : AreDistinct (features answers)
  distinct_made = subst (λ (l : Answers). AreDistinct (features l)) made.features (distinct i made.under object made.patched made.patching)

  plan-is : (plan : PlanContent) → plan ≡ plan_of answers (map (plan_map i.settings) final.maps) final → plan ≡ plan_under i made.under final
  plan-is plan is = is ∙ ap (λ (l : Answers). plan_of l (map (plan_map i.settings) final.maps) final) (sym made.features)

  pub planned_made : PassLaws → (plan : PlanContent) → plan ≡ plan_of answers (map (plan_map i.settings) final.maps) final → HoldsTypeBytes final.types plan.type_bytes → IsPlannedObject predicate before Says i object plan
  planned_made laws plan is holds = record {
    under = made.under;
    said = made.said;
    planned = planned laws i made.under object made.patched final plan made.patching made.linking (plan-is plan is) holds;
    orders = λ free order.
        planned laws (in_order order i) made.under object made.patched final plan
        (made-in laws.rest i.order order i made.under object made.patched free made.patching) made.linking (plan-is plan is) holds;
  }

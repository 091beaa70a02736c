-- Type relocations over tables of an object's types that agree on the reached types.
use Rattle.std.proofs.Common.{◌≡◌, ℕ, suc, Bool, true, List, [], ◌∷◌, ◌++◌, None, Some, Ok, Err, Option, Result, refl, sym, ap, subst, inl, inr, ◌∙◌}
use Rattle.std.proofs.lemmas.List.Elements.{All-head, All-tail}
use Rattle.std.specs.Prelude.{◌==◌, All, IfOk, IfSome, option_and_then, slice_get, if◌then◌else◌}
use Rattle.std.specs.Option.{option_map, option_to_list}
use Rattle.std.specs.Result.{result_ok}
use Rattle.core_spec.specs.Laws.{AreAlike}
use Rattle.core_spec.specs.declared.field_values.WholeField.{WholeField}
use Rattle.btf_ext.specs.SectionInfos.{SectionInfo}
use Rattle.btf_ext.specs.declared.record.bpf_core_relo.{bpf_core_relo}
use Rattle.btf_records.specs.declared.types.BtfType.{BtfType}
use Rattle.btf_tables.specs.Tables.{Table}
use Rattle.ebpf_items.specs.RelocationKind.{relocation_kinds}
use Rattle.ebpf_items.specs.declared.relocation_kind.RelocationKind.{RelocationKind}
use Rattle.object_parts.specs.Content.{FunctionContent, key_of}
use Rattle.object_parts.specs.Installed.{AreChanged}
use Rattle.string_table.specs.Texts.{text_at}
use Rattle.core_resolve.specs.Laws.{OutcomesRest}
use Rattle.core_resolve.specs.declared.error.TypeRelocationError.{TypeRelocationError}
use Rattle.core_resolve.specs.declared.resolved.Resolved.{Resolved}
use Rattle.core_resolve.specs.declared.resolved.Resolved.TheVariants as outcomes
use Rattle.core_resolve.specs.declared.relocation.RelocationOutcome.{RelocationOutcome}
use Rattle.core_patch.specs.Patches.{field_size, may_stand_for, patch_for, patch_of, type_of, width_of}
use Rattle.core_patch.specs.declared.patch.Patch.{Patch}
use Rattle.core_patch.specs.declared.patch.Patch.TheVariants.{Value}
use Rattle.core_patch.specs.declared.patch.Width.{Width}
use Rattle.core_patch.specs.declared.patch.Width.TheVariants.{Changed, Kept, Unknown}
use Rattle.core_relocation.specs.Faults.{FaultOfSectionInfo, SectionInfosFault, HasTypesFault, RecordsFault, WritesFault}
use Rattle.core_relocation.specs.Laws.{AgreeOnReach, with_types_of}
use Rattle.core_relocation.specs.Reach.{reach_of}
use Rattle.core_relocation.specs.Relocations.{SectionInfos, TypesGiven, all_placed, function_holding, outcome_of_kind, placed, placed_among, placed_as, placed_in, placed_section_info, record_outcome, section_at, section_named}
use Rattle.core_relocation.specs.Writes.{AreRelocated, after_types, inside_of}
use Rattle.relocation_errors.specs.declared.type_relocations.BtfRelocationCause.{BtfRelocationCause}
use Rattle.relocation_errors.specs.declared.type_relocations.BtfRelocationCause.TheVariants as cause
use Rattle.core_relocation.specs.declared.placed_relocation.PlacedRelocation.{PlacedRelocation}
use Rattle.core_relocation.proofs.Reach.{reach_is_reach}

-- The inputs, and another table that agrees with the object's own on the reached types.
record Both : Type 0 where
  outcomes : OutcomesRest
  reached : ℕ → Bool
  given : TypesGiven
  other : Table
  alike : AreAlike reached given.local other

abbrev there : Both → TypesGiven
there b = with_types_of b.given b.other

-- The type of a relocation is reached, and its access string is the same text in both tables.
record IsReached (b : Both) (r : bpf_core_relo) : Type 0 where
  type : b.reached r.type_id ≡ true
  access : text_at b.other.strings r.access_str_off ≡ text_at b.given.local.strings r.access_str_off

abbrev AllReached : Both → List bpf_core_relo → Type 0
AllReached b [] = Unit {0}
AllReached b (r ∷ rs) = IsReached b r × AllReached b rs

-- The records of a section info are reached, and the name of its section is the same text in both
-- tables.
record IsReachedSectionInfo (b : Both) (x : SectionInfo bpf_core_relo) : Type 0 where
  records : AllReached b x.records
  section : text_at b.other.strings x.name_offset ≡ text_at b.given.local.strings x.name_offset

abbrev AllReachedSectionInfos : Both → SectionInfos → Type 0
AllReachedSectionInfos b [] = Unit {0}
AllReachedSectionInfos b (x ∷ xs) = IsReachedSectionInfo b x × AllReachedSectionInfos b xs

-- ---- Outcomes

of-kind : (b : Both) (r : bpf_core_relo) → IsReached b r → (k : Option RelocationKind) → outcome_of_kind (there b) r k ≡ outcome_of_kind b.given r k
of-kind b r here None = refl
of-kind b r here (Some kind) = b.outcomes.same b.reached b.given.local b.other b.alike (record { kind = kind; type_id = r.type_id; access_str_off = r.access_str_off }) here.type here.access b.given.targets

outcome-same : (b : Both) (r : bpf_core_relo) → IsReached b r → record_outcome (there b) r ≡ record_outcome b.given r
outcome-same b r here = of-kind b r here (slice_get relocation_kinds r.kind)

-- The type of the field that an instruction was compiled for, if there is one, is reached.
abbrev HasReached : Both → RelocationOutcome → Type 0
HasReached b o = IfSome o.local_field (λ f. b.reached f.type_id ≡ true)

within-kind : (b : Both) (r : bpf_core_relo) → IsReached b r → (k : Option RelocationKind) → IfOk (outcome_of_kind b.given r k) (HasReached b)
within-kind b r here None = tt
within-kind b r here (Some kind) = b.outcomes.field b.reached b.given.local b.other b.alike (record { kind = kind; type_id = r.type_id; access_str_off = r.access_str_off }) here.type b.given.targets

outcome-within : (b : Both) (r : bpf_core_relo) → IsReached b r → IfOk (record_outcome b.given r) (HasReached b)
outcome-within b r here = within-kind b r here (slice_get relocation_kinds r.kind)

-- ---- The patches of outcomes

type-same : (b : Both) (field : Option WholeField) → IfSome field (λ f. b.reached f.type_id ≡ true) → type_of (Some b.other) field ≡ type_of (Some b.given.local) field
type-same b None here = refl
type-same b (Some f) here = b.alike.records.same f.type_id here

width-same : (b : Both) (target : Option Table) (compiled field : Option WholeField) → IfSome compiled (λ f. b.reached f.type_id ≡ true) → width_of b.other target compiled field ≡ width_of b.given.local target compiled field
width-same b target compiled field here =
    ap (λ (t : Option BtfType). if field_size compiled == field_size field then Kept else if may_stand_for t (type_of target field) then Changed (field_size field) else Unknown) (type-same b compiled here)

patch-same : (b : Both) (target : Option Table) (compiled : Option WholeField) (outcome : Resolved) → IfSome compiled (λ f. b.reached f.type_id ≡ true) → patch_for b.other target compiled outcome ≡ patch_for b.given.local target compiled outcome
patch-same b target compiled (outcomes.Value v) here = ap (λ (w : Width). Value v.value w) (width-same b target compiled v.field here)
patch-same b target compiled outcomes.Poison here = refl

patch_of-same : (b : Both) (o : RelocationOutcome) → HasReached b o → patch_of b.other b.given.targets o ≡ patch_of b.given.local b.given.targets o
patch_of-same b o here = patch-same b (option_and_then (slice_get b.given.targets) o.table) o.local_field o.outcome here

-- ---- Placed relocations

as-same : (b : Both) (r : bpf_core_relo) (f : FunctionContent) (o : RelocationOutcome) → HasReached b o → placed_as (there b) r f o ≡ placed_as b.given r f o
as-same b r f o here =
    ap (λ (p : Patch). record { key = key_of f; offset = r.insn_off; patch = p; table = o.table }) (patch_of-same b o here)

in-result : (b : Both) (r : bpf_core_relo) (f : FunctionContent) (result : Result RelocationOutcome TypeRelocationError) → IfOk result (HasReached b)
    → option_map (placed_as (there b) r f) (result_ok result) ≡ option_map (placed_as b.given r f) (result_ok result)
in-result b r f (Ok o) here = ap (λ (p : PlacedRelocation). Some p) (as-same b r f o here)
in-result b r f (Err e) here = refl

in-same : (b : Both) (r : bpf_core_relo) (f : FunctionContent) → IsReached b r → placed_in (there b) r f ≡ placed_in b.given r f
in-same b r f here =
    ap (λ (result : Result RelocationOutcome TypeRelocationError). option_map (placed_as (there b) r f) (result_ok result)) (outcome-same b r here)
    ∙ in-result b r f (record_outcome b.given r) (outcome-within b r here)

holding-same : (b : Both) (r : bpf_core_relo) → IsReached b r → (o : Option FunctionContent) → option_and_then (placed_in (there b) r) o ≡ option_and_then (placed_in b.given r) o
holding-same b r here None = refl
holding-same b r here (Some f) = in-same b r f here

placed-same : (b : Both) (section : Option ℕ) (r : bpf_core_relo) → IsReached b r → placed (there b) section r ≡ placed b.given section r
placed-same b None r here = refl
placed-same b (Some s) r here = holding-same b r here (function_holding b.given.functions s r.insn_off)

among-same : (b : Both) (section : Option ℕ) (rs : List bpf_core_relo) → AllReached b rs → placed_among (there b) section rs ≡ placed_among b.given section rs
among-same b section [] here = refl
among-same b section (r ∷ rs) here =
    ap (λ (p : Option PlacedRelocation). option_to_list p ++ placed_among (there b) section rs) (placed-same b section r here.0)
    ∙ ap (λ (ps : List PlacedRelocation). option_to_list (placed b.given section r) ++ ps) (among-same b section rs here.1)

section-same : (b : Both) (x : SectionInfo bpf_core_relo) → IsReachedSectionInfo b x → section_at (there b) x.name_offset ≡ section_at b.given x.name_offset
section-same b x here = ap (option_and_then (section_named b.given.file)) here.section

section_info-same : (b : Both) (x : SectionInfo bpf_core_relo) → IsReachedSectionInfo b x → placed_section_info (there b) x ≡ placed_section_info b.given x
section_info-same b x here =
    ap (λ (s : Option ℕ). placed_among (there b) s x.records) (section-same b x here)
    ∙ among-same b (section_at b.given x.name_offset) x.records here.records

section_infos-same : (b : Both) (xs : SectionInfos) → AllReachedSectionInfos b xs → all_placed (there b) xs ≡ all_placed b.given xs
section_infos-same b [] here = refl
section_infos-same b (x ∷ xs) here =
    ap (λ (ps : List PlacedRelocation). ps ++ all_placed (there b) xs) (section_info-same b x here.0)
    ∙ ap (λ (ps : List PlacedRelocation). placed_section_info b.given x ++ ps) (section_infos-same b xs here.1)

-- ---- Faults

section_info-fault : (one other : TypesGiven) (name : ℕ) (c : BtfRelocationCause) → other.file ≡ one.file → text_at other.local.strings name ≡ text_at one.local.strings name → FaultOfSectionInfo one name c → FaultOfSectionInfo other name c
section_info-fault one other name (cause.BtfError e) file text h = (h.0, text ∙ h.1)
section_info-fault one other name cause.SectionNotFound file text h = (h.0, text ∙ h.1, ap (λ f. section_named f h.0) file ∙ h.2)
section_info-fault one other name _ file text h = absurd h

records-fault : (b : Both) (section : Option ℕ) (rs : List bpf_core_relo) (c : BtfRelocationCause) → AllReached b rs → RecordsFault b.given section rs c → RecordsFault (there b) section rs c
records-fault b section [] c here none = elim none [ ]
records-fault b section (r ∷ rs) c here (inl lacks) = inl lacks
records-fault b section (r ∷ rs) c here (inr (inl lacks)) = inr (inl (lacks.0, outcome-same b r here.0 ∙ lacks.1, lacks.2))
records-fault b section (r ∷ rs) c here (inr (inr rest)) = inr (inr (records-fault b section rs c here.1 rest))

records-fault-back : (b : Both) (section : Option ℕ) (rs : List bpf_core_relo) (c : BtfRelocationCause) → AllReached b rs → RecordsFault (there b) section rs c → RecordsFault b.given section rs c
records-fault-back b section [] c here none = elim none [ ]
records-fault-back b section (r ∷ rs) c here (inl lacks) = inl lacks
records-fault-back b section (r ∷ rs) c here (inr (inl lacks)) = inr (inl (lacks.0, sym (outcome-same b r here.0) ∙ lacks.1, lacks.2))
records-fault-back b section (r ∷ rs) c here (inr (inr rest)) = inr (inr (records-fault-back b section rs c here.1 rest))

section_infos-fault : (b : Both) (xs : SectionInfos) (c : BtfRelocationCause) → AllReachedSectionInfos b xs → SectionInfosFault b.given xs c → SectionInfosFault (there b) xs c
section_infos-fault b [] c here none = elim none [ ]
section_infos-fault b (x ∷ xs) c here (inl fault) = inl (section_info-fault b.given (there b) x.name_offset c refl here.0.section fault)
section_infos-fault b (x ∷ xs) c here (inr (inl fault)) =
    inr (inl (subst (λ (s : Option ℕ). RecordsFault (there b) s x.records c) (sym (section-same b x here.0)) (records-fault b (section_at b.given x.name_offset) x.records c here.0.records fault)))
section_infos-fault b (x ∷ xs) c here (inr (inr rest)) = inr (inr (section_infos-fault b xs c here.1 rest))

section_infos-fault-back : (b : Both) (xs : SectionInfos) (c : BtfRelocationCause) → AllReachedSectionInfos b xs → SectionInfosFault (there b) xs c → SectionInfosFault b.given xs c
section_infos-fault-back b [] c here none = elim none [ ]
section_infos-fault-back b (x ∷ xs) c here (inl fault) = inl (section_info-fault (there b) b.given x.name_offset c refl (sym here.0.section) fault)
section_infos-fault-back b (x ∷ xs) c here (inr (inl fault)) =
    inr (inl (subst (λ (s : Option ℕ). RecordsFault b.given s x.records c) (section-same b x here.0) (records-fault-back b (section_at (there b) x.name_offset) x.records c here.0.records fault)))
section_infos-fault-back b (x ∷ xs) c here (inr (inr rest)) = inr (inr (section_infos-fault-back b xs c here.1 rest))

-- ---- All results

records-reached : (b : Both) (rs : List bpf_core_relo) → All (λ r. b.reached r.type_id ≡ true) rs
    → All (λ r. text_at b.other.strings r.access_str_off ≡ text_at b.given.local.strings r.access_str_off) rs → AllReached b rs
records-reached b [] types accesses = tt
records-reached b (r ∷ rs) types accesses = (
  record { type = All-head (λ (r : bpf_core_relo). b.reached r.type_id ≡ true) r rs types; access = All-head (λ (r : bpf_core_relo). text_at b.other.strings r.access_str_off ≡ text_at b.given.local.strings r.access_str_off) r rs accesses },
  records-reached b rs (All-tail (λ (r : bpf_core_relo). b.reached r.type_id ≡ true) r rs types) (All-tail (λ (r : bpf_core_relo). text_at b.other.strings r.access_str_off ≡ text_at b.given.local.strings r.access_str_off) r rs accesses),
)

abbrev HasReachedTypes : Both → SectionInfo bpf_core_relo → Type 0
HasReachedTypes b x = All (λ r. b.reached r.type_id ≡ true) x.records

abbrev HasSameAccesses : Both → SectionInfo bpf_core_relo → Type 0
HasSameAccesses b x = All (λ r. text_at b.other.strings r.access_str_off ≡ text_at b.given.local.strings r.access_str_off) x.records

abbrev HasSameSection : Both → SectionInfo bpf_core_relo → Type 0
HasSameSection b x = text_at b.other.strings x.name_offset ≡ text_at b.given.local.strings x.name_offset

section_infos-reached : (b : Both) (xs : SectionInfos) → All (HasReachedTypes b) xs → All (HasSameAccesses b) xs → All (HasSameSection b) xs → AllReachedSectionInfos b xs
section_infos-reached b [] types accesses sections = tt
section_infos-reached b (x ∷ xs) types accesses sections = (
  record { records = records-reached b x.records (All-head (HasReachedTypes b) x xs types) (All-head (HasSameAccesses b) x xs accesses); section = All-head (HasSameSection b) x xs sections },
  section_infos-reached b xs (All-tail (HasReachedTypes b) x xs types) (All-tail (HasSameAccesses b) x xs accesses) (All-tail (HasSameSection b) x xs sections),
)

abbrev both : OutcomesRest → (reached : ℕ → Bool) (g : TypesGiven) (other : Table) → AreAlike reached g.local other → Both
both outcomes reached g other alike = record { outcomes = outcomes; reached = reached; given = g; other = other; alike = alike }

-- The tables agree on the reached records and on the texts that these hold.
alike-by : (g : TypesGiven) (other : Table) (section_infos : SectionInfos) → AgreeOnReach g.local other section_infos → AreAlike (reach_of g.local section_infos) g.local other
alike-by g other section_infos a = record {
  records = record { same = a.records; closed = (reach_is_reach g.local section_infos).closed };
  texts = a.texts;
}

abbrev both-by : OutcomesRest → (g : TypesGiven) (other : Table) (section_infos : SectionInfos) → AgreeOnReach g.local other section_infos → Both
both-by outcomes g other section_infos a = both outcomes (reach_of g.local section_infos) g other (alike-by g other section_infos a)

reach : (outcomes : OutcomesRest) (g : TypesGiven) (other : Table) (section_infos : SectionInfos) → (a : AgreeOnReach g.local other section_infos) → AllReachedSectionInfos (both-by outcomes g other section_infos a) section_infos
reach outcomes g other section_infos a =
    section_infos-reached (both-by outcomes g other section_infos a) section_infos (reach_is_reach g.local section_infos).types a.accesses a.sections

pub all-same : (outcomes : OutcomesRest) (g : TypesGiven) (other : Table) (section_infos : SectionInfos) → AgreeOnReach g.local other section_infos → all_placed (with_types_of g other) section_infos ≡ all_placed g section_infos
all-same outcomes g other section_infos a = section_infos-same (both-by outcomes g other section_infos a) section_infos (reach outcomes g other section_infos a)

-- The functions are relocated by these placed relocations.
abbrev Changed-by : TypesGiven → List ((ℕ × ℕ) × FunctionContent) → List PlacedRelocation → Type 0
Changed-by g new ps = AreChanged (λ f. after_types (inside_of ps) f) g.functions new

pub relocated-same : (outcomes : OutcomesRest) (g : TypesGiven) (other : Table) (section_infos : SectionInfos) → AgreeOnReach g.local other section_infos → (new : List ((ℕ × ℕ) × FunctionContent))
    → (AreRelocated g section_infos new → AreRelocated (with_types_of g other) section_infos new) × (AreRelocated (with_types_of g other) section_infos new → AreRelocated g section_infos new)
relocated-same outcomes g other section_infos a new =
    let same = all-same outcomes g other section_infos a in
    ((λ h. subst (Changed-by g new) (sym same) h), (λ h. subst (Changed-by g new) same h))

-- The writes of these placed relocations have a fault.
abbrev Fault-by : TypesGiven → BtfRelocationCause → List PlacedRelocation → Type 0
Fault-by g c ps = WritesFault (inside_of ps) g.functions c

pub refused-same : (outcomes : OutcomesRest) (g : TypesGiven) (other : Table) (section_infos : SectionInfos) → AgreeOnReach g.local other section_infos → (c : BtfRelocationCause)
    → (HasTypesFault g section_infos c → HasTypesFault (with_types_of g other) section_infos c) × (HasTypesFault (with_types_of g other) section_infos c → HasTypesFault g section_infos c)
refused-same outcomes g other section_infos a c = (there-is, back) where
  b : Both
  b = both-by outcomes g other section_infos a

  here : AllReachedSectionInfos b section_infos
  here = reach outcomes g other section_infos a

  same : all_placed (with_types_of g other) section_infos ≡ all_placed g section_infos
  same = all-same outcomes g other section_infos a

  there-is : HasTypesFault g section_infos c → HasTypesFault (with_types_of g other) section_infos c
  there-is (inl fault) = inl (section_infos-fault b section_infos c here fault)
  there-is (inr fault) = inr (subst (Fault-by g c) (sym same) fault)

  back : HasTypesFault (with_types_of g other) section_infos c → HasTypesFault g section_infos c
  back (inl fault) = inl (section_infos-fault-back b section_infos c here fault)
  back (inr fault) = inr (subst (Fault-by g c) same fault)

-- Paths through tables that agree on the reached types.
use Rattle.std.proofs.Common.{◌≡◌, ℕ, Bool, true, false, List, [], ◌∷◌, ◌++◌, None, Some, Ok, Err, Option, Result, refl, ap, subst, ◌∙◌}
use Rattle.std.proofs.lemmas.List.Elements.{All-append, All-cons, All-nil}
use Rattle.std.specs.Prelude.{All, IfOk, IfSome, ◌==◌, ◌&&◌, ◌||◌, nat_lt, if◌then◌else◌, slice_get}
use Rattle.std.specs.Option.{option_map_or, option_to_list, unwrap_or}
use Rattle.core_spec.specs.AccessStrings.{access_numbers}
use Rattle.core_spec.specs.FieldPaths.{apply_index, at_element, at_member, first_index, finished_path, ends_with, field_path, has_element, member_step, path_from, step_place, to_element, to_member, to_part}
use Rattle.core_spec.specs.Laws.{AreAlike, IsReachedPath, PathsRest}
use Rattle.core_spec.specs.LocalPaths.{local_path, path_of, type_path, with_numbers}
use Rattle.core_spec.specs.Lookups.{and_then, found_text, found_type, with_found, with_text, with_type}
use Rattle.core_spec.specs.Subjects.{subject_of}
use Rattle.core_spec.specs.Variants.{one_variant, variant_at, variant_count, variant_name, variant_place}
use Rattle.core_spec.specs.declared.error.AccessError.{AccessError}
use Rattle.core_spec.specs.declared.error.AccessError.TheVariants as errors
use Rattle.core_spec.specs.declared.fields.Advance.{Advance}
use Rattle.core_spec.specs.declared.fields.Reached.{Reached}
use Rattle.core_spec.specs.declared.path.Place.{Place}
use Rattle.core_spec.specs.declared.path.Step.{Step}
use Rattle.core_spec.specs.declared.path.Step.TheVariants.{Variant}
use Rattle.core_spec.specs.declared.subject.Subject.{Subject}
use Rattle.core_spec.specs.declared.subject.Subject.TheVariants as subjects
use Rattle.btf_encoding.specs.Records.{count_of}
use Rattle.btf_records.specs.Fields.{members_of, name_offset_of}
use Rattle.btf_records.specs.declared.item.BtfArray.{BtfArray}
use Rattle.btf_records.specs.declared.item.BtfMember.{BtfMember}
use Rattle.btf_records.specs.declared.types.BtfType.{BtfType}
use Rattle.btf_records.specs.declared.types.BtfType.TheVariants as types
use Rattle.btf_tables.specs.ResolvedTypes.{resolved_type}
use Rattle.btf_tables.specs.Tables.{Table, type_by_id}
use Rattle.btf_tables.specs.TypeSizes.{type_size_in_32_bits}
use Rattle.btf_records.specs.declared.error.BtfError.{BtfError}
use Rattle.ebpf_items.specs.declared.relocation_kind.RelocationKind.{RelocationKind}
use Rattle.string_table.specs.Texts.{text_at}
use Rattle.core_spec.proofs.Held.{element-reached}
use Rattle.core_spec.proofs.LookupsAlike.{found-same, ids-reached, lookups_rest, text-same, then-same, type-same}

-- Two tables that agree on the reached types.
pub record Both : Type 0 where
  pub reached : ℕ → Bool
  pub one : Table
  pub other : Table
  pub alike : AreAlike reached one other

resolved : (b : Both) (id : ℕ) → b.reached id ≡ true → resolved_type b.other id ≡ resolved_type b.one id
resolved b id here = lookups_rest.resolved b.reached b.one b.other b.alike id here

ends : (b : Both) (id end : ℕ) → b.reached id ≡ true → resolved_type b.one id ≡ Ok end → b.reached end ≡ true
ends b id end here e = lookups_rest.ends b.reached b.one b.other b.alike id end here e

sizes : (b : Both) (id : ℕ) → b.reached id ≡ true → type_size_in_32_bits b.other id ≡ type_size_in_32_bits b.one id
sizes b id here = lookups_rest.sizes b.reached b.one b.other b.alike id here

records : (b : Both) (id : ℕ) → b.reached id ≡ true → type_by_id b.other id ≡ type_by_id b.one id
records b id here = b.alike.records.same id here

member-of : (b : Both) (id index : ℕ) (t : BtfType) (m : BtfMember) → b.reached id ≡ true → type_by_id b.one id ≡ Some t → slice_get (members_of t) index ≡ Some m → (b.reached m.btf_type ≡ true) × (text_at b.other.strings m.name_offset ≡ text_at b.one.strings m.name_offset)
member-of b id index t m here known is = lookups_rest.members b.reached b.one b.other b.alike id index t m here known is

-- ---- Steps

-- The type of a step is reached.
abbrev pub IsReachedStep : (ℕ → Bool) → Step → Type 0
IsReachedStep reached s = reached (step_place s).type_id ≡ true

pub record IsReached (reached : ℕ → Bool) (r : Reached) : Type 0 where
  pub next : reached r.type_id ≡ true
  pub last : IsReachedStep reached r.last

pub record IsReachedAdvance (reached : ℕ → Bool) (a : Advance) : Type 0 where
  pub on : IsReached reached a.reached
  pub step : IfSome a.step (IsReachedStep reached)

array-same : (b : Both) (len : ℕ) (last : Step) (index : ℕ) → IsReachedStep b.reached last → has_element b.other len last index ≡ has_element b.one len last index
array-same b len last index here =
    ap (λ (p : Option BtfType). nat_lt index len || ((len == 0) && option_map_or (λ t. ends_with t (step_place last).index) p false)) (records b (step_place last).type_id here)

step-same : (b : Both) (place : Place) (m : BtfMember) → text_at b.other.strings m.name_offset ≡ text_at b.one.strings m.name_offset → member_step b.other place m ≡ member_step b.one place m
step-same b place m e = ap (λ (r : Result (Option Step) AccessError). if m.name_offset == 0 then Ok None else r) (text-same b.one b.other m.name_offset _ _ e (λ text. refl))

member-same : (b : Both) (from : Reached) (t : BtfType) (place : Place) (m : BtfMember) → text_at b.other.strings m.name_offset ≡ text_at b.one.strings m.name_offset → at_member b.other from t place m ≡ at_member b.one from t place m
member-same b from t place m e = then-same (member_step b.one place m) (member_step b.other place m) _ _ (step-same b place m e) (λ step is. refl)

to_member-same : (b : Both) (from : Reached) (t : BtfType) (place : Place) → b.reached place.type_id ≡ true → type_by_id b.one place.type_id ≡ Some t → to_member b.other from t place ≡ to_member b.one from t place
to_member-same b from t place here known = by (slice_get (members_of t) place.index) refl where
  by : (o : Option BtfMember) → slice_get (members_of t) place.index ≡ o → option_map_or (at_member b.other from t place) o (Err (errors.InvalidAccessIndex place (count_of t))) ≡ option_map_or (at_member b.one from t place) o (Err (errors.InvalidAccessIndex place (count_of t)))
  by None is = refl
  by (Some m) is = member-same b from t place m (member-of b place.type_id place.index t m here known is).1

at_element-same : (b : Both) (from : Reached) (element index : ℕ) → b.reached element ≡ true → at_element b.other from element index ≡ at_element b.one from element index
at_element-same b from element index here = found-same (type_size_in_32_bits b.one element) (type_size_in_32_bits b.other element) _ _ (sizes b element here) (λ size is. refl)

cond-same : {R : Type 0} (c c' : Bool) (x x' y : R) → c' ≡ c → x' ≡ x → (if c' then x' else y) ≡ (if c then x else y)
cond-same {R} c c' x x' y e f = ap (λ (d : Bool). if d then x' else y) e ∙ ap (λ (z : R). if c then z else y) f

to_element-same : (b : Both) (from : Reached) (array : BtfArray) (place : Place) → b.reached array.element_type ≡ true → IsReachedStep b.reached from.last → to_element b.other from array place ≡ to_element b.one from array place
to_element-same b from array place here last =
    found-same (resolved_type b.one array.element_type) (resolved_type b.other array.element_type) _ _ (resolved b array.element_type here)
    (λ element is. cond-same (has_element b.one array.len from.last place.index) (has_element b.other array.len from.last place.index) (at_element b.one from element place.index) (at_element b.other from element place.index) _ (array-same b array.len from.last place.index last) (at_element-same b from element place.index (ends b array.element_type element here is)))

to_part-same : (b : Both) (from : Reached) (place : Place) (t : BtfType) → b.reached place.type_id ≡ true → type_by_id b.one place.type_id ≡ Some t → IsReachedStep b.reached from.last → to_part b.other from place t ≡ to_part b.one from place t
to_part-same b from place (types.Struct t) here known last = to_member-same b from (types.Struct t) place here known
to_part-same b from place (types.Union t) here known last = to_member-same b from (types.Union t) place here known
to_part-same b from place (types.Array t) here known last = to_element-same b from t.array place (element-reached b.reached (types.Array t) t.array (ids-reached b.reached b.one b.other b.alike place.type_id (types.Array t) here known) refl) last
to_part-same b from place _ here known last = refl

apply_index-same : (b : Both) (from : Reached) (index : ℕ) → IsReached b.reached from → apply_index b.other from index ≡ apply_index b.one from index
apply_index-same b from index here =
    found-same (resolved_type b.one from.type_id) (resolved_type b.other from.type_id) _ _ (resolved b from.type_id here.next)
    (λ id is. let there = ends b from.type_id id here.next is in type-same b.one b.other id _ _ (records b id there) (λ t known. to_part-same b from (record { type_id = id; index = index }) t there known here.last))

-- ---- Results of a step

-- A result, if it isn't an error, has this property.
abbrev pub Gives : {T : Type 0} → (T → Type 0) → Result T AccessError → Type 0
Gives P r = IfOk r P

found-gives : {T U : Type 0} (P : U → Type 0) (r : Result T BtfError) (go : T → Result U AccessError) → ((x : T) → r ≡ Ok x → Gives P (go x)) → Gives P (with_found r go)
found-gives P (Ok x) go h = h x refl
found-gives P (Err e) go h = tt

then-gives : {T U : Type 0} (P : U → Type 0) (r : Result T AccessError) (go : T → Result U AccessError) → ((x : T) → r ≡ Ok x → Gives P (go x)) → Gives P (and_then r go)
then-gives P (Ok x) go h = h x refl
then-gives P (Err e) go h = tt

type-gives : {U : Type 0} (P : U → Type 0) (one : Table) (id : ℕ) (go : BtfType → Result U AccessError) → ((t : BtfType) → type_by_id one id ≡ Some t → Gives P (go t)) → Gives P (with_type one id go)
type-gives {U} P one id go h = by (type_by_id one id) refl where
  by : (o : Option BtfType) → type_by_id one id ≡ o → Gives P (with_found (found_type one id o) go)
  by None is = tt
  by (Some t) is = h t is

text-gives : {U : Type 0} (P : U → Type 0) (one : Table) (offset : ℕ) (go : List ℕ → Result U AccessError) → ((text : List ℕ) → Gives P (go text)) → Gives P (with_text one offset go)
text-gives {U} P one offset go h = by (text_at one.strings offset) where
  by : (o : Option (List ℕ)) → Gives P (with_found (found_text offset o) go)
  by None = tt
  by (Some text) = h text

cond-gives : {U : Type 0} (P : U → Type 0) (c : Bool) (x y : Result U AccessError) → Gives P x → Gives P y → Gives P (if c then x else y)
cond-gives P true x y h k = h
cond-gives P false x y h k = k

-- A step, if there is one, is at a reached type.
abbrev pub IsStepAt : (ℕ → Bool) → Option Step → Type 0
IsStepAt reached step = IfSome step (IsReachedStep reached)

step-gives : (b : Both) (place : Place) (m : BtfMember) → b.reached place.type_id ≡ true → Gives (IsStepAt b.reached) (member_step b.one place m)
step-gives b place m here = cond-gives (IsStepAt b.reached) (m.name_offset == 0) (Ok None) _ tt (text-gives (IsStepAt b.reached) b.one m.name_offset _ (λ text. here))

last-of : (reached : ℕ → Bool) (step : Option Step) (last : Step) → IsStepAt reached step → IsReachedStep reached last → IsReachedStep reached (unwrap_or step last)
last-of reached None last h k = k
last-of reached (Some s) last h k = h

some-step : (b : Both) (place : Place) (m : BtfMember) (step : Option Step) → b.reached place.type_id ≡ true → member_step b.one place m ≡ Ok step → IsStepAt b.reached step
some-step b place m step here e = subst (Gives (IsStepAt b.reached)) e (step-gives b place m here)

member-gives : (b : Both) (from : Reached) (t : BtfType) (place : Place) (m : BtfMember) → IsReached b.reached from → b.reached place.type_id ≡ true → b.reached m.btf_type ≡ true → Gives (IsReachedAdvance b.reached) (at_member b.one from t place m)
member-gives b from t place m from_here here there =
    then-gives (IsReachedAdvance b.reached) (member_step b.one place m) _
    (λ step is. let s = some-step b place m step here is in record { on = record { next = there; last = last-of b.reached step from.last s from_here.last }; step = s })

to_member-gives : (b : Both) (from : Reached) (t : BtfType) (place : Place) → IsReached b.reached from → b.reached place.type_id ≡ true → type_by_id b.one place.type_id ≡ Some t → Gives (IsReachedAdvance b.reached) (to_member b.one from t place)
to_member-gives b from t place from_here here known = by (slice_get (members_of t) place.index) refl where
  by : (o : Option BtfMember) → slice_get (members_of t) place.index ≡ o → Gives (IsReachedAdvance b.reached) (option_map_or (at_member b.one from t place) o (Err (errors.InvalidAccessIndex place (count_of t))))
  by None is = tt
  by (Some m) is = member-gives b from t place m from_here here (member-of b place.type_id place.index t m here known is).0

at_element-gives : (b : Both) (from : Reached) (element index : ℕ) → b.reached element ≡ true → Gives (IsReachedAdvance b.reached) (at_element b.one from element index)
at_element-gives b from element index here = found-gives (IsReachedAdvance b.reached) (type_size_in_32_bits b.one element) _ (λ size is. record { on = record { next = here; last = here }; step = here })

to_element-gives : (b : Both) (from : Reached) (array : BtfArray) (place : Place) → b.reached array.element_type ≡ true → Gives (IsReachedAdvance b.reached) (to_element b.one from array place)
to_element-gives b from array place here =
    found-gives (IsReachedAdvance b.reached) (resolved_type b.one array.element_type) _
    (λ element is. cond-gives (IsReachedAdvance b.reached) (has_element b.one array.len from.last place.index) _ _ (at_element-gives b from element place.index (ends b array.element_type element here is)) tt)

to_part-gives : (b : Both) (from : Reached) (place : Place) (t : BtfType) → IsReached b.reached from → b.reached place.type_id ≡ true → type_by_id b.one place.type_id ≡ Some t → Gives (IsReachedAdvance b.reached) (to_part b.one from place t)
to_part-gives b from place (types.Struct t) from_here here known = to_member-gives b from (types.Struct t) place from_here here known
to_part-gives b from place (types.Union t) from_here here known = to_member-gives b from (types.Union t) place from_here here known
to_part-gives b from place (types.Array t) from_here here known = to_element-gives b from t.array place (element-reached b.reached (types.Array t) t.array (ids-reached b.reached b.one b.other b.alike place.type_id (types.Array t) here known) refl)
to_part-gives b from place _ from_here here known = tt

apply_index-gives : (b : Both) (from : Reached) (index : ℕ) → IsReached b.reached from → Gives (IsReachedAdvance b.reached) (apply_index b.one from index)
apply_index-gives b from index here =
    found-gives (IsReachedAdvance b.reached) (resolved_type b.one from.type_id) _
    (λ id is. let there = ends b from.type_id id here.next is in type-gives (IsReachedAdvance b.reached) b.one id _ (λ t known. to_part-gives b from (record { type_id = id; index = index }) t here there known))

-- ---- Whole paths

one-step : (b : Both) (from : Reached) (index : ℕ) (next : Advance) → IsReached b.reached from → apply_index b.one from index ≡ Ok next → IsReachedAdvance b.reached next
one-step b from index next here e = subst (Gives (IsReachedAdvance b.reached)) e (apply_index-gives b from index here)

path-same : (b : Both) (asked : ℕ) (numbers : List ℕ) (steps : List Step) (from : Reached) → IsReached b.reached from → path_from b.other asked steps from numbers ≡ path_from b.one asked steps from numbers
unfolding path_from
path-same b asked [] steps from here = refl
path-same b asked (n ∷ ns) steps from here =
    then-same (apply_index b.one from n) (apply_index b.other from n) _ _ (apply_index-same b from n here)
    (λ next is. path-same b asked ns (steps ++ option_to_list next.step) next.reached (one-step b from n next here is).on)

listed : (reached : ℕ → Bool) (step : Option Step) → IsStepAt reached step → All (IsReachedStep reached) (option_to_list step)
listed reached None h = All-nil (IsReachedStep reached)
listed reached (Some s) h = All-cons (IsReachedStep reached) s [] h (All-nil (IsReachedStep reached))

finished_path-gives : (b : Both) (asked : ℕ) (steps : List Step) (bits : Option ℕ) → b.reached asked ≡ true → All (IsReachedStep b.reached) steps → Gives (IsReachedPath b.reached) (finished_path asked steps bits)
finished_path-gives b asked steps None here all = tt
finished_path-gives b asked steps (Some bits) here all = record { root = here; steps = all }

path-gives : (b : Both) (asked : ℕ) (numbers : List ℕ) (steps : List Step) (from : Reached) → b.reached asked ≡ true → IsReached b.reached from → All (IsReachedStep b.reached) steps → Gives (IsReachedPath b.reached) (path_from b.one asked steps from numbers)
unfolding path_from
path-gives b asked [] steps from root here all = finished_path-gives b asked steps from.bits root all
path-gives b asked (n ∷ ns) steps from root here all =
    then-gives (IsReachedPath b.reached) (apply_index b.one from n) _
    (λ next is. let on = one-step b from n next here is in path-gives b asked ns (steps ++ option_to_list next.step) next.reached root on.on (All-append (IsReachedStep b.reached) steps (option_to_list next.step) all (listed b.reached next.step on.step)))

first_index-gives : (b : Both) (root index : ℕ) → b.reached root ≡ true → Gives (IsReached b.reached) (first_index b.one root index)
first_index-gives b root index here = found-gives (IsReached b.reached) (type_size_in_32_bits b.one root) _ (λ size is. record { next = here; last = here })

first-step : (b : Both) (root index : ℕ) (from : Reached) → b.reached root ≡ true → first_index b.one root index ≡ Ok from → IsReached b.reached from
first-step b root index from here e = subst (Gives (IsReached b.reached)) e (first_index-gives b root index here)

field-same : (b : Both) (asked root : ℕ) (numbers : List ℕ) → b.reached root ≡ true → field_path b.other asked root numbers ≡ field_path b.one asked root numbers
field-same b asked root [] here = refl
field-same b asked root (n ∷ ns) here =
    then-same (first_index b.one root n) (first_index b.other root n) _ _ (found-same (type_size_in_32_bits b.one root) (type_size_in_32_bits b.other root) _ _ (sizes b root here) (λ size is. refl))
    (λ from is. path-same b asked ns (from.last ∷ []) from (first-step b root n from here is))

field-gives : (b : Both) (asked root : ℕ) (numbers : List ℕ) → b.reached asked ≡ true → b.reached root ≡ true → Gives (IsReachedPath b.reached) (field_path b.one asked root numbers)
field-gives b asked root [] there here = tt
field-gives b asked root (n ∷ ns) there here =
    then-gives (IsReachedPath b.reached) (first_index b.one root n) _
    (λ from is. let first = first-step b root n from here is in path-gives b asked ns (from.last ∷ []) from there first (All-cons (IsReachedStep b.reached) from.last [] first.last (All-nil (IsReachedStep b.reached))))

-- ---- Variants

variant-same : (b : Both) (id : ℕ) (t : BtfType) (len index : ℕ) → b.reached id ≡ true → type_by_id b.one id ≡ Some t → variant_at b.other id t len index ≡ variant_at b.one id t len index
variant-same b id t len index here known = by (variant_name t index) refl where
  by : (o : Option ℕ) → variant_name t index ≡ o → option_map_or (λ offset. with_text {U = Place} b.other offset (λ _. Ok (record { type_id = id; index = index }))) o (Err (errors.InvalidAccessIndex (record { type_id = id; index = index }) len)) ≡ option_map_or (λ offset. with_text {U = Place} b.one offset (λ _. Ok (record { type_id = id; index = index }))) o (Err (errors.InvalidAccessIndex (record { type_id = id; index = index }) len))
  by None is = refl
  by (Some offset) is = text-same b.one b.other offset _ _ (lookups_rest.variants b.reached b.one b.other b.alike id index t offset here known is) (λ text. refl)

one_variant-same : (b : Both) (id : ℕ) (t : BtfType) (len : ℕ) (numbers : List ℕ) → b.reached id ≡ true → type_by_id b.one id ≡ Some t → one_variant b.other id t len numbers ≡ one_variant b.one id t len numbers
one_variant-same b id t len [] here known = refl
one_variant-same b id t len (n ∷ []) here known = variant-same b id t len n here known
one_variant-same b id t len (n ∷ m ∷ ns) here known = refl

counted-same : (b : Both) (id : ℕ) (t : BtfType) (numbers : List ℕ) (o : Option ℕ) → b.reached id ≡ true → type_by_id b.one id ≡ Some t → option_map_or (λ len. one_variant b.other id t len numbers) o (Err (errors.InvalidRelocationKindForType id)) ≡ option_map_or (λ len. one_variant b.one id t len numbers) o (Err (errors.InvalidRelocationKindForType id))
counted-same b id t numbers None here known = refl
counted-same b id t numbers (Some len) here known = one_variant-same b id t len numbers here known

place-same : (b : Both) (id : ℕ) (numbers : List ℕ) → b.reached id ≡ true → variant_place b.other id numbers ≡ variant_place b.one id numbers
place-same b id numbers here = type-same b.one b.other id _ _ (records b id here) (λ t known. counted-same b id t numbers (variant_count t) here known)

at-gives : (b : Both) (id : ℕ) (t : BtfType) (len index : ℕ) (o : Option ℕ) → b.reached id ≡ true → Gives (λ (place : Place). b.reached place.type_id ≡ true) (option_map_or (λ offset. with_text {U = Place} b.one offset (λ _. Ok (record { type_id = id; index = index }))) o (Err (errors.InvalidAccessIndex (record { type_id = id; index = index }) len)))
at-gives b id t len index None here = tt
at-gives b id t len index (Some offset) here = text-gives (λ (place : Place). b.reached place.type_id ≡ true) b.one offset _ (λ text. here)

one_variant-gives : (b : Both) (id : ℕ) (t : BtfType) (len : ℕ) (numbers : List ℕ) → b.reached id ≡ true → Gives (λ (place : Place). b.reached place.type_id ≡ true) (one_variant b.one id t len numbers)
one_variant-gives b id t len [] here = tt
one_variant-gives b id t len (n ∷ []) here = at-gives b id t len n (variant_name t n) here
one_variant-gives b id t len (n ∷ m ∷ ns) here = tt

counted-gives : (b : Both) (id : ℕ) (t : BtfType) (numbers : List ℕ) (o : Option ℕ) → b.reached id ≡ true → Gives (λ (place : Place). b.reached place.type_id ≡ true) (option_map_or (λ len. one_variant b.one id t len numbers) o (Err (errors.InvalidRelocationKindForType id)))
counted-gives b id t numbers None here = tt
counted-gives b id t numbers (Some len) here = one_variant-gives b id t len numbers here

place-gives : (b : Both) (id : ℕ) (numbers : List ℕ) → b.reached id ≡ true → Gives (λ (place : Place). b.reached place.type_id ≡ true) (variant_place b.one id numbers)
place-gives b id numbers here = type-gives (λ (place : Place). b.reached place.type_id ≡ true) b.one id _ (λ t known. counted-gives b id t numbers (variant_count t) here)

place-reached : (b : Both) (id : ℕ) (numbers : List ℕ) (place : Place) → b.reached id ≡ true → variant_place b.one id numbers ≡ Ok place → b.reached place.type_id ≡ true
place-reached b id numbers place here e = subst (Gives (λ (p : Place). b.reached p.type_id ≡ true)) e (place-gives b id numbers here)

-- ---- All subjects

of-same : (b : Both) (subject : Subject) (asked root : ℕ) (numbers : List ℕ) → b.reached root ≡ true → path_of subject b.other asked root numbers ≡ path_of subject b.one asked root numbers
of-same b subjects.Field asked root numbers here = field-same b asked root numbers here
of-same b subjects.Type asked root numbers here = refl
of-same b subjects.Variant asked root numbers here = then-same (variant_place b.one root numbers) (variant_place b.other root numbers) _ _ (place-same b root numbers here) (λ place is. refl)

zero-gives : (b : Both) (asked : ℕ) (c : Bool) → b.reached asked ≡ true → Gives (IsReachedPath b.reached) (if c then Ok (record { type_id = asked; steps = []; bit_offset = 0 }) else Err errors.InvalidAccessString)
zero-gives b asked true here = record { root = here; steps = All-nil (IsReachedStep b.reached) }
zero-gives b asked false here = tt

type-path-gives : (b : Both) (asked : ℕ) (numbers : List ℕ) → b.reached asked ≡ true → Gives (IsReachedPath b.reached) (type_path asked numbers)
type-path-gives b asked [] here = tt
type-path-gives b asked (n ∷ []) here = zero-gives b asked (n == 0) here
type-path-gives b asked (n ∷ m ∷ ns) here = tt

of-gives : (b : Both) (subject : Subject) (asked root : ℕ) (numbers : List ℕ) → b.reached asked ≡ true → b.reached root ≡ true → Gives (IsReachedPath b.reached) (path_of subject b.one asked root numbers)
of-gives b subjects.Field asked root numbers there here = field-gives b asked root numbers there here
of-gives b subjects.Type asked root numbers there here = type-path-gives b asked numbers there
of-gives b subjects.Variant asked root numbers there here =
    then-gives (IsReachedPath b.reached) (variant_place b.one root numbers) _
    (λ place is. record { root = there; steps = All-cons (IsReachedStep b.reached) (Variant place) [] (place-reached b root numbers place here is) (All-nil (IsReachedStep b.reached)) })

numbers-same : {U : Type 0} (o : Option (List ℕ)) (go go' : List ℕ → Result U AccessError) → ((ns : List ℕ) → go' ns ≡ go ns) → with_numbers o go' ≡ with_numbers o go
numbers-same None go go' h = refl
numbers-same (Some ns) go go' h = h ns

numbers-gives : {U : Type 0} (P : U → Type 0) (o : Option (List ℕ)) (go : List ℕ → Result U AccessError) → ((ns : List ℕ) → Gives P (go ns)) → Gives P (with_numbers o go)
numbers-gives P None go h = tt
numbers-gives P (Some ns) go h = h ns

local-same : (b : Both) (kind : RelocationKind) (id access : ℕ) → b.reached id ≡ true → text_at b.other.strings access ≡ text_at b.one.strings access → local_path b.other kind id access ≡ local_path b.one kind id access
local-same b kind id access here e =
    type-same b.one b.other id _ _ (records b id here)
    (λ t known. text-same b.one b.other (name_offset_of t) _ _ (lookups_rest.names b.reached b.one b.other b.alike id t here known)
    (λ _. text-same b.one b.other access _ _ e
    (λ text. numbers-same (access_numbers text) _ _
    (λ ns. found-same (resolved_type b.one id) (resolved_type b.other id) _ _ (resolved b id here) (λ root is. of-same b (subject_of kind) id root ns (ends b id root here is))))))

local-gives : (b : Both) (kind : RelocationKind) (id access : ℕ) → b.reached id ≡ true → Gives (IsReachedPath b.reached) (local_path b.one kind id access)
local-gives b kind id access here =
    type-gives (IsReachedPath b.reached) b.one id _
    (λ t known. text-gives (IsReachedPath b.reached) b.one (name_offset_of t) _
    (λ _. text-gives (IsReachedPath b.reached) b.one access _
    (λ text. numbers-gives (IsReachedPath b.reached) (access_numbers text) _
    (λ ns. found-gives (IsReachedPath b.reached) (resolved_type b.one id) _ (λ root is. of-gives b (subject_of kind) id root ns here (ends b id root here is))))))

pub paths_rest : PathsRest
paths_rest = record {
  same = λ reached one other alike kind id access here e. local-same (record { reached = reached; one = one; other = other; alike = alike }) kind id access here e;
  within = λ reached one other alike kind id access here. local-gives (record { reached = reached; one = one; other = other; alike = alike }) kind id access here;
}

-- Values in tables that agree on the reached types.
use Rattle.std.proofs.Common.{◌≡◌, ◌≤◌, ◌<◌, ◌-◌, ◌+◌, ℕ, zero, suc, Bool, true, false, List, [], ◌∷◌, length, None, Some, Ok, Err, Option, Result, refl, ap, ◌∙◌, arith}
use Rattle.std.proofs.lemmas.List.Elements.{All-head, All-tail}
use Rattle.std.specs.Prelude.{All, IfOk, IfSome, slice_get, ◌==◌, nat_lt, if◌then◌else◌}
use Rattle.std.specs.Option.{option_map_or}
use Rattle.core_spec.specs.Extents.{extent_of}
use Rattle.core_spec.specs.FieldPaths.{step_place}
use Rattle.core_spec.specs.FieldValues.{element_value, field_at, member_value, of_extent, of_field, plain, shift_past, with_extent}
use Rattle.core_spec.specs.Laws.{AreAlike, HasReachedField, IsReachedPath, LookupsRest, ValuesRest}
use Rattle.core_spec.specs.Lookups.{found_type, with_found, with_type}
use Rattle.core_spec.specs.PathValues.{enum_value_at, last_step, path_value, value_at}
use Rattle.core_spec.specs.VariantValues.{variant_value}
use Rattle.core_spec.specs.declared.error.AccessError.{AccessError}
use Rattle.core_spec.specs.declared.error.AccessError.TheVariants as errors
use Rattle.core_spec.specs.declared.extent.Extent.{Extent}
use Rattle.core_spec.specs.declared.extent.Field.{Field}
use Rattle.core_spec.specs.declared.field_values.WholeField.{WholeField}
use Rattle.core_spec.specs.declared.path.AccessPath.{AccessPath}
use Rattle.core_spec.specs.declared.path.Place.{Place}
use Rattle.core_spec.specs.declared.path.Step.{Step}
use Rattle.core_spec.specs.declared.path.Step.TheVariants.{Element, Member, Variant}
use Rattle.core_spec.specs.declared.value.RelocationValue.{RelocationValue}
use Rattle.btf_encoding.specs.Records.{bits_of}
use Rattle.btf_records.specs.Fields.{members_of}
use Rattle.btf_records.specs.Items.{bit_size_of}
use Rattle.btf_records.specs.declared.error.BtfError.{BtfError}
use Rattle.btf_records.specs.declared.error.BtfError.TheVariants.{InvalidTypeInfo}
use Rattle.btf_records.specs.declared.item.BtfMember.{BtfMember}
use Rattle.btf_records.specs.declared.types.BtfType.{BtfType}
use Rattle.btf_tables.specs.ResolvedTypes.{resolved_type}
use Rattle.btf_tables.specs.Tables.{Table, type_by_id}
use Rattle.btf_tables.specs.TypeSizes.{type_size_in_32_bits}
use Rattle.ebpf_items.specs.declared.relocation_kind.RelocationKind.{RelocationKind}
use Rattle.ebpf_items.specs.declared.relocation_kind.RelocationKind.TheVariants as kinds
use Rattle.core_spec.proofs.LookupsAlike.{found-same, type-same}

-- Two tables that agree on the reached types.
pub record Both : Type 0 where
  pub laws : LookupsRest
  pub reached : ℕ → Bool
  pub one : Table
  pub other : Table
  pub alike : AreAlike reached one other

records : (b : Both) (id : ℕ) → b.reached id ≡ true → type_by_id b.other id ≡ type_by_id b.one id
records b id here = b.alike.records.same id here

sizes : (b : Both) (id : ℕ) → b.reached id ≡ true → type_size_in_32_bits b.other id ≡ type_size_in_32_bits b.one id
sizes b id here = b.laws.sizes b.reached b.one b.other b.alike id here

ends : (b : Both) (id end : ℕ) → b.reached id ≡ true → resolved_type b.one id ≡ Ok end → b.reached end ≡ true
ends b id end here e = b.laws.ends b.reached b.one b.other b.alike id end here e

-- ---- Results of look-ups

found-gives : {T U : Type 0} (P : U → Type 0) (r : Result T BtfError) (go : T → Result U AccessError) → ((x : T) → r ≡ Ok x → IfOk (go x) P) → IfOk (with_found r go) P
found-gives P (Ok x) go h = h x refl
found-gives P (Err e) go h = tt

type-gives : {U : Type 0} (P : U → Type 0) (one : Table) (id : ℕ) (go : BtfType → Result U AccessError) → ((t : BtfType) → type_by_id one id ≡ Some t → IfOk (go t) P) → IfOk (with_type one id go) P
type-gives {U} P one id go h = by (type_by_id one id) refl where
  by : (o : Option BtfType) → type_by_id one id ≡ o → IfOk (with_found (found_type one id o) go) P
  by None is = tt
  by (Some t) is = h t is

-- ---- Fields

member-of : (b : Both) (id index : ℕ) (t : BtfType) (m : BtfMember) → b.reached id ≡ true → type_by_id b.one id ≡ Some t → slice_get (members_of t) index ≡ Some m → b.reached m.btf_type ≡ true
member-of b id index t m here known is = (b.laws.members b.reached b.one b.other b.alike id index t m here known is).0

-- The field of a member.
abbrev pub field_of : Table → BtfType → BtfMember → Result Field AccessError
field_of table t m = with_found (resolved_type table m.btf_type) (λ id. with_found (type_size_in_32_bits table id) (λ size. Ok (record { type_id = id; size = size; bit_size = bit_size_of (bits_of t).flag m })))

field_of-same : (b : Both) (t : BtfType) (m : BtfMember) → b.reached m.btf_type ≡ true → field_of b.other t m ≡ field_of b.one t m
field_of-same b t m here =
    found-same (resolved_type b.one m.btf_type) (resolved_type b.other m.btf_type) _ _ (b.laws.resolved b.reached b.one b.other b.alike m.btf_type here)
    (λ id is. found-same (type_size_in_32_bits b.one id) (type_size_in_32_bits b.other id) _ _ (sizes b id (ends b m.btf_type id here is)) (λ size _. refl))

field-same : (b : Both) (place : Place) → b.reached place.type_id ≡ true → field_at b.other place ≡ field_at b.one place
field-same b place here = type-same b.one b.other place.type_id _ _ (records b place.type_id here) (λ t known. by t known (slice_get (members_of t) place.index) refl) where
  by : (t : BtfType) → type_by_id b.one place.type_id ≡ Some t → (o : Option BtfMember) → slice_get (members_of t) place.index ≡ o → option_map_or (field_of b.other t) o (Err (errors.InvalidRelocationKindForType place.type_id)) ≡ option_map_or (field_of b.one t) o (Err (errors.InvalidRelocationKindForType place.type_id))
  by t known None is = refl
  by t known (Some m) is = field_of-same b t m (member-of b place.type_id place.index t m here known is)

field-gives : (b : Both) (place : Place) → b.reached place.type_id ≡ true → IfOk (field_at b.one place) (λ f. b.reached f.type_id ≡ true)
field-gives b place here = type-gives (λ (f : Field). b.reached f.type_id ≡ true) b.one place.type_id _ (λ t known. by t known (slice_get (members_of t) place.index) refl) where
  by : (t : BtfType) → type_by_id b.one place.type_id ≡ Some t → (o : Option BtfMember) → slice_get (members_of t) place.index ≡ o → IfOk (option_map_or (field_of b.one t) o (Err (errors.InvalidRelocationKindForType place.type_id))) (λ f. b.reached f.type_id ≡ true)
  by t known None is = tt
  by t known (Some m) is =
      found-gives (λ (f : Field). b.reached f.type_id ≡ true) (resolved_type b.one m.btf_type) _
      (λ id end. found-gives (λ (f : Field). b.reached f.type_id ≡ true) (type_size_in_32_bits b.one id) _ (λ size _. ends b m.btf_type id (member-of b place.type_id place.index t m here known is) end))

extent-same : (b : Both) (kind : RelocationKind) (field : Field) (extent : Extent) → b.reached field.type_id ≡ true → of_extent b.other kind field extent ≡ of_extent b.one kind field extent
extent-same b kinds.FieldSigned field extent here = type-same b.one b.other field.type_id _ _ (records b field.type_id here) (λ t known. refl)
extent-same b kinds.FieldByteOffset field extent here = refl
extent-same b kinds.FieldByteSize field extent here = refl
extent-same b kinds.FieldLShift64 field extent here = refl
extent-same b kinds.FieldRShift64 field extent here = refl
extent-same b _ field extent here = refl

in-extent : (b : Both) (kind : RelocationKind) (field : Field) (o : Option Extent) → b.reached field.type_id ≡ true → with_extent o (of_extent b.other kind field) ≡ with_extent o (of_extent b.one kind field)
in-extent b kind field None here = refl
in-extent b kind field (Some extent) here = extent-same b kind field extent here

of-field : (b : Both) (kind : RelocationKind) (bits : ℕ) (r : Result Field AccessError) → IfOk r (λ f. b.reached f.type_id ≡ true) → of_field b.other kind bits r ≡ of_field b.one kind bits r
of-field b kind bits (Err e) here = refl
of-field b kind bits (Ok field) here = in-extent b kind field (extent_of field bits) here

member-same : (b : Both) (kind : RelocationKind) (place : Place) (bits : ℕ) → b.reached place.type_id ≡ true → member_value b.other kind place bits ≡ member_value b.one kind place bits
member-same b kind place bits here = ap (of_field b.other kind bits) (field-same b place here) ∙ of-field b kind bits (field_at b.one place) (field-gives b place here)

element-same : (b : Both) (kind : RelocationKind) (id bits : ℕ) → b.reached id ≡ true → element_value b.other kind id bits ≡ element_value b.one kind id bits
element-same b kinds.FieldByteOffset id bits here = found-same (type_size_in_32_bits b.one id) (type_size_in_32_bits b.other id) _ _ (sizes b id here) (λ size _. refl)
element-same b kinds.FieldByteSize id bits here = found-same (type_size_in_32_bits b.one id) (type_size_in_32_bits b.other id) _ _ (sizes b id here) (λ size _. refl)
element-same b _ id bits here = refl

-- ---- The last step

at-index : {A : Type 0} (P : A → Type 0) (xs : List A) (i : ℕ) → All P xs → IfSome (slice_get xs i) P
at-index P [] i h = tt
at-index P (x ∷ xs) zero h = All-head P x xs h
at-index P (x ∷ xs) (suc i) h = at-index P xs i (All-tail P x xs h)

step-same : (b : Both) (kind : RelocationKind) (path : AccessPath) (o : Option Step) → IfSome o (λ s. b.reached (step_place s).type_id ≡ true) → value_at b.other kind path o ≡ value_at b.one kind path o
step-same b kind path None here = refl
step-same b kind path (Some (Element place)) here = element-same b kind place.type_id path.bit_offset here
step-same b kind path (Some (Member place)) here = member-same b kind place path.bit_offset here
step-same b kind path (Some (Variant place)) here = refl

enum-same : (b : Both) (path : AccessPath) (o : Option Step) → IfSome o (λ s. b.reached (step_place s).type_id ≡ true) → enum_value_at b.other path o ≡ enum_value_at b.one path o
enum-same b path None here = refl
enum-same b path (Some (Element place)) here = refl
enum-same b path (Some (Member place)) here = refl
enum-same b path (Some (Variant place)) here = type-same b.one b.other place.type_id _ _ (records b place.type_id here) (λ t known. refl)

last : (b : Both) (path : AccessPath) → IsReachedPath b.reached path → IfSome (last_step path) (λ s. b.reached (step_place s).type_id ≡ true)
last b path here = at-index (λ (s : Step). b.reached (step_place s).type_id ≡ true) path.steps (length path.steps - 1) here.steps

value-same : (b : Both) (kind : RelocationKind) (path : AccessPath) → IsReachedPath b.reached path → path_value b.other kind path ≡ path_value b.one kind path
value-same b kinds.FieldExists path here = refl
value-same b kinds.TypeExists path here = refl
value-same b kinds.EnumVariantExists path here = refl
value-same b kinds.TypeIdLocal path here = refl
value-same b kinds.TypeIdTarget path here = refl
value-same b kinds.TypeSize path here = found-same (type_size_in_32_bits b.one path.type_id) (type_size_in_32_bits b.other path.type_id) _ _ (sizes b path.type_id here.root) (λ size _. refl)
value-same b kinds.EnumVariantValue path here = enum-same b path (last_step path) (last b path here)
value-same b kinds.FieldByteOffset path here = step-same b kinds.FieldByteOffset path (last_step path) (last b path here)
value-same b kinds.FieldByteSize path here = step-same b kinds.FieldByteSize path (last_step path) (last b path here)
value-same b kinds.FieldSigned path here = step-same b kinds.FieldSigned path (last_step path) (last b path here)
value-same b kinds.FieldLShift64 path here = step-same b kinds.FieldLShift64 path (last_step path) (last b path here)
value-same b kinds.FieldRShift64 path here = step-same b kinds.FieldRShift64 path (last_step path) (last b path here)

-- ---- The field of a value

shift-within : (b : Both) (bits : ℕ) → IfOk (shift_past bits) (HasReachedField b.reached)
shift-within b bits = by (nat_lt 64 bits) where
  by : (t : Bool) → IfOk (if t then Err (errors.BtfError InvalidTypeInfo) else Ok (plain (64 - bits))) (HasReachedField b.reached)
  by true = tt
  by false = tt

whole-within : (b : Both) (field : Field) (t : Bool) → b.reached field.type_id ≡ true → IfSome {T = WholeField} (if t then Some (record { type_id = field.type_id; size = field.size }) else None) (λ f. b.reached f.type_id ≡ true)
whole-within b field true here = here
whole-within b field false here = tt

extent-within : (b : Both) (kind : RelocationKind) (field : Field) (extent : Extent) → b.reached field.type_id ≡ true → IfOk (of_extent b.one kind field extent) (HasReachedField b.reached)
extent-within b kinds.FieldByteOffset field extent here = whole-within b field (field.bit_size == 0) here
extent-within b kinds.FieldByteSize field extent here = tt
extent-within b kinds.FieldSigned field extent here = type-gives (HasReachedField b.reached) b.one field.type_id _ (λ t known. tt)
extent-within b kinds.FieldLShift64 field extent here = shift-within b (extent.start + extent.bits)
extent-within b kinds.FieldRShift64 field extent here = shift-within b extent.bits
extent-within b _ field extent here = tt

field-within : (b : Both) (kind : RelocationKind) (bits : ℕ) (r : Result Field AccessError) → IfOk r (λ f. b.reached f.type_id ≡ true) → IfOk (of_field b.one kind bits r) (HasReachedField b.reached)
field-within b kind bits (Err e) here = tt
field-within b kind bits (Ok field) here = by (extent_of field bits) where
  by : (o : Option Extent) → IfOk (with_extent o (of_extent b.one kind field)) (HasReachedField b.reached)
  by None = tt
  by (Some extent) = extent-within b kind field extent here

element-within : (b : Both) (kind : RelocationKind) (id bits : ℕ) → b.reached id ≡ true → IfOk (element_value b.one kind id bits) (HasReachedField b.reached)
element-within b kinds.FieldByteOffset id bits here = found-gives (HasReachedField b.reached) (type_size_in_32_bits b.one id) _ (λ size _. here)
element-within b kinds.FieldByteSize id bits here = found-gives (HasReachedField b.reached) (type_size_in_32_bits b.one id) _ (λ size _. tt)
element-within b _ id bits here = tt

step-within : (b : Both) (kind : RelocationKind) (path : AccessPath) (o : Option Step) → IfSome o (λ s. b.reached (step_place s).type_id ≡ true) → IfOk (value_at b.one kind path o) (HasReachedField b.reached)
step-within b kind path None here = tt
step-within b kind path (Some (Element place)) here = element-within b kind place.type_id path.bit_offset here
step-within b kind path (Some (Member place)) here = field-within b kind path.bit_offset (field_at b.one place) (field-gives b place here)
step-within b kind path (Some (Variant place)) here = tt

variant-within : (b : Both) (place : Place) (o : Option ℕ) → IfOk (option_map_or (λ value. Ok (plain value)) o (Err (errors.InvalidRelocationKindForType place.type_id))) (HasReachedField b.reached)
variant-within b place None = tt
variant-within b place (Some value) = tt

enum-within : (b : Both) (path : AccessPath) (o : Option Step) → IfOk (enum_value_at b.one path o) (HasReachedField b.reached)
enum-within b path None = tt
enum-within b path (Some (Element place)) = tt
enum-within b path (Some (Member place)) = tt
enum-within b path (Some (Variant place)) = type-gives (HasReachedField b.reached) b.one place.type_id _ (λ t known. variant-within b place (variant_value t place.index))

value-within : (b : Both) (kind : RelocationKind) (path : AccessPath) → IsReachedPath b.reached path → IfOk (path_value b.one kind path) (HasReachedField b.reached)
value-within b kinds.FieldExists path here = tt
value-within b kinds.TypeExists path here = tt
value-within b kinds.EnumVariantExists path here = tt
value-within b kinds.TypeIdLocal path here = tt
value-within b kinds.TypeIdTarget path here = tt
value-within b kinds.TypeSize path here = found-gives (HasReachedField b.reached) (type_size_in_32_bits b.one path.type_id) _ (λ size _. tt)
value-within b kinds.EnumVariantValue path here = enum-within b path (last_step path)
value-within b kinds.FieldByteOffset path here = step-within b kinds.FieldByteOffset path (last_step path) (last b path here)
value-within b kinds.FieldByteSize path here = step-within b kinds.FieldByteSize path (last_step path) (last b path here)
value-within b kinds.FieldSigned path here = step-within b kinds.FieldSigned path (last_step path) (last b path here)
value-within b kinds.FieldLShift64 path here = step-within b kinds.FieldLShift64 path (last_step path) (last b path here)
value-within b kinds.FieldRShift64 path here = step-within b kinds.FieldRShift64 path (last_step path) (last b path here)

pub values_rest : LookupsRest → ValuesRest
values_rest laws = record {
  same = λ reached one other alike kind path here. value-same (record { laws = laws; reached = reached; one = one; other = other; alike = alike }) kind path here;
  within = λ reached one other alike kind path here. value-within (record { laws = laws; reached = reached; one = one; other = other; alike = alike }) kind path here;
}

-- Laws of paths, of their look-ups and of their values.
use Rattle.std.specs.Prelude.{◌≡◌, ℕ, Bool, true, slice_get, All, IfOk, IfSome, Some, Ok}
use Rattle.core_spec.specs.FieldPaths.{step_place}
use Rattle.core_spec.specs.LocalPaths.{local_path}
use Rattle.core_spec.specs.PathValues.{path_value}
use Rattle.core_spec.specs.Variants.{variant_name}
use Rattle.core_spec.specs.declared.path.AccessPath.{AccessPath}
use Rattle.core_spec.specs.declared.value.RelocationValue.{RelocationValue}
use Rattle.btf_records.specs.Fields.{members_of, name_offset_of}
use Rattle.btf_records.specs.declared.item.BtfMember.{BtfMember}
use Rattle.btf_records.specs.declared.types.BtfType.{BtfType}
use Rattle.btf_tables.specs.Agreement.{AgreeOn}
use Rattle.btf_tables.specs.Holdings.{AgreeOnTexts, held_ids}
use Rattle.btf_tables.specs.ResolvedTypes.{resolved_type}
use Rattle.btf_tables.specs.Tables.{Table, type_by_id}
use Rattle.btf_tables.specs.TypeSizes.{type_size_in_32_bits}
use Rattle.ebpf_items.specs.declared.relocation_kind.RelocationKind.{RelocationKind}
use Rattle.string_table.specs.Texts.{text_at}

-- Two tables agree on the reached records and on their texts.
pub record AreAlike (reached : ℕ → Bool) (one other : Table) : Type 0 where
  pub records : AgreeOn held_ids reached one other
  pub texts : AgreeOnTexts reached one other

-- Look-ups of reached types have the same results in both tables, and the results are reached.
pub record LookupsRest : Type 0 where
  pub resolved : (reached : ℕ → Bool) (one other : Table) → AreAlike reached one other → (id : ℕ)
      → reached id ≡ true
      → resolved_type other id ≡ resolved_type one id
  pub ends : (reached : ℕ → Bool) (one other : Table) → AreAlike reached one other → (id end : ℕ)
      → reached id ≡ true
      → resolved_type one id ≡ Ok end → reached end ≡ true
  pub sizes : (reached : ℕ → Bool) (one other : Table) → AreAlike reached one other → (id : ℕ)
      → reached id ≡ true
      → type_size_in_32_bits other id ≡ type_size_in_32_bits one id
  pub names : (reached : ℕ → Bool) (one other : Table) → AreAlike reached one other → (id : ℕ)
      (t : BtfType) → reached id ≡ true
      → type_by_id one id ≡ Some t
      → text_at other.strings (name_offset_of t) ≡ text_at one.strings (name_offset_of t)
  pub members : (reached : ℕ → Bool) (one other : Table) → AreAlike reached one other
      → (id index : ℕ) (t : BtfType) (m : BtfMember) → reached id ≡ true
      → type_by_id one id ≡ Some t → slice_get (members_of t) index ≡ Some m
      → (reached m.btf_type ≡ true)
      × (text_at other.strings m.name_offset ≡ text_at one.strings m.name_offset)
  pub variants : (reached : ℕ → Bool) (one other : Table) → AreAlike reached one other
      → (id index : ℕ) (t : BtfType) (offset : ℕ) → reached id ≡ true
      → type_by_id one id ≡ Some t
      → variant_name t index ≡ Some offset
      → text_at other.strings offset ≡ text_at one.strings offset

-- All types of a path are reached.
pub record IsReachedPath (reached : ℕ → Bool) (path : AccessPath) : Type 0 where
  pub root : reached path.type_id ≡ true
  pub steps : All (λ s. reached (step_place s).type_id ≡ true) path.steps

-- The path of an access is the same in every other table that agrees on the records reached from
-- its type, on their texts and on the access string. All types of the path are reached.
pub record PathsRest : Type 0 where
  pub same : (reached : ℕ → Bool) (one other : Table) → AreAlike reached one other
      → (kind : RelocationKind) (id access : ℕ) → reached id ≡ true
      → text_at other.strings access ≡ text_at one.strings access
      → local_path other kind id access ≡ local_path one kind id access
  pub within : (reached : ℕ → Bool) (one other : Table) → AreAlike reached one other
      → (kind : RelocationKind) (id access : ℕ) → reached id ≡ true
      → IfOk (local_path one kind id access) (IsReachedPath reached)

-- The type of the value's field, if there is a field, is reached.
abbrev pub HasReachedField : (ℕ → Bool) → RelocationValue → Type 0
HasReachedField reached v = IfSome v.field (λ f. reached f.type_id ≡ true)

-- The value of a path is the same in every other table that agrees on the records reached from the
-- path. The type of the value's field is reached.
pub record ValuesRest : Type 0 where
  pub same : (reached : ℕ → Bool) (one other : Table) → AreAlike reached one other
      → (kind : RelocationKind) (path : AccessPath) → IsReachedPath reached path
      → path_value other kind path ≡ path_value one kind path
  pub within : (reached : ℕ → Bool) (one other : Table) → AreAlike reached one other
      → (kind : RelocationKind) (path : AccessPath) → IsReachedPath reached path
      → IfOk (path_value one kind path) (HasReachedField reached)

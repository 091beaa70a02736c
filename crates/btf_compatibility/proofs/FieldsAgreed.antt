-- A comparison of members depends on the records that it reaches in each table, and on their names.
use Rattle.std.proofs.Common.{◌≡◌, ℕ, zero, suc, Bool, true, List, [], All, IfSome, None, Some, Option, refl, ap, ap₂, ◌∙◌}
use Rattle.std.proofs.lemmas.List.Elements.{All-head}
use Rattle.std.specs.Option.{option_map, option_to_list, unwrap_or}
use Rattle.btf_tables.specs.Agreement.{AgreeOn, AgreeOnNames, RestsOnNames}
use Rattle.btf_tables.specs.ResolvedTypes.{max_depth}
use Rattle.btf_tables.specs.Tables.{Table, type_by_id}
use Rattle.btf_compatibility.specs.FieldCompatibility.{element_of, field_answer, field_ids, fields_compared, fields_compatible}
use Rattle.btf_compatibility.specs.TypeCompatibility.{record_at}
use Rattle.btf_compatibility.proofs.Chains.{AllReached, AreReached, ends_same, more_reached, record_same}
use Rattle.btf_compatibility.proofs.FieldRounds.{answer_same}
use Rattle.btf_compatibility.proofs.Ids.{IsKnown}
use Rattle.btf_records.specs.Fields.{array_of, kind_of_type, name_offset_of}
use Rattle.string_table.specs.Texts.{text_at}
use Rattle.btf_records.specs.declared.kind.BtfKind.TheVariants as kinds
use Rattle.btf_records.specs.declared.types.BtfType.{BtfType}
use Rattle.btf_records.specs.declared.types.BtfType.TheVariants as types

-- The element type of an array.
abbrev elements : BtfType → List ℕ
elements t = option_to_list (option_map (λ array. array.element_type) (array_of t))

element_reached : (reached : ℕ → Bool) (t : BtfType) → kind_of_type t ≡ kinds.Array
    → AllReached reached (elements t) → reached (element_of t) ≡ true
element_reached reached (types.Array t) is h =
    All-head (λ x. reached x ≡ true) t.array.element_type [] h
element_reached reached _ is h = absurd cc

-- The name of a known record is the same text in both tables.
name_same : (reached : ℕ → Bool) (one other : Table) → AgreeOnNames reached one other → (id : ℕ)
    → reached id ≡ true → IsKnown one id
    → text_at other.strings (name_offset_of (record_at one id))
    ≡ text_at one.strings (name_offset_of (record_at one id))
name_same reached one other names id here known =
    by (type_by_id one id) known.is (names.same id here)
  where
    by : (t : Option BtfType) → t ≡ Some known.found
        → IfSome t (λ u.
        text_at other.strings (name_offset_of u) ≡ text_at one.strings (name_offset_of u))
        → text_at other.strings (name_offset_of (unwrap_or t types.Unknown))
        ≡ text_at one.strings (name_offset_of (unwrap_or t types.Unknown))
    by None is h = absurd cc
    by (Some t) is h = h

module _ (left right : ℕ → Bool) (local one target other : Table)
    (locals : AgreeOn field_ids left local one) (local_names : AgreeOnNames left local one)
    (targets : AgreeOn field_ids right target other)
    (target_names : AgreeOnNames right target other) where
  rounds_same : (n asked : ℕ) (p : ℕ × ℕ) → AreReached left right p
      → fields_compared n one other asked p ≡ fields_compared n local target asked p
  unfolding fields_compared
  rounds_same zero asked p here = refl
  rounds_same (suc n) asked p here =
      let go = fields_compared n local target asked in
      let go' = fields_compared n one other asked in
      ends_same elements refl left right local one target other locals targets asked _ _ p here
      (λ l r known_l known_r to.
      let a = record_at local l in
      let b = record_at target r in
      ap₂ (field_answer go' one other l)
      (record_same elements refl left local one locals l to.0)
      (record_same elements refl right target other targets r to.1)
      ∙ answer_same go go' local one target other l a b
      (rw (
        name_same left local one local_names l to.0 known_l,
        name_same right target other target_names r to.1 known_r,
      ) refl)
      (λ is_a is_b. rounds_same n asked (element_of a, element_of b) (
        element_reached left a is_a (more_reached elements refl left local one locals l to.0),
        element_reached right b is_b (more_reached elements refl right target other targets r to.1),
      )))

pub fields_rest : (local : Table) (l : ℕ) (target : Table) (r : ℕ)
    → RestsOnNames field_ids local l target r (λ one other. fields_compatible one l other r)
fields_rest local l target r = record {
  alike = λ left right one other locals local_names targets target_names here there.
      rounds_same left right local one target other locals local_names targets target_names max_depth
      l (l, r) (here, there);
}

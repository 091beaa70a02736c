-- Comparisons with one target table, from local tables that agree.
use Rattle.std.proofs.Common.{◌≡◌, ℕ, Bool, true, List, ◌∷◌, None, Some, Option, refl}
use Rattle.std.proofs.lemmas.List.Elements.{All-head}
use Rattle.std.specs.Prelude.{All, IfSome}
use Rattle.btf_tables.specs.Agreement.{AgreeOn, AgreeOnNames}
use Rattle.btf_tables.specs.Holdings.{AgreeOnTexts, item_names}
use Rattle.btf_tables.specs.Tables.{Table, type_by_id}
use Rattle.btf_records.specs.Fields.{name_offset_of}
use Rattle.btf_records.specs.declared.types.BtfType.{BtfType}
use Rattle.string_table.specs.Texts.{text_at}
use Rattle.btf_compatibility.specs.FieldCompatibility.{field_ids}
use Rattle.btf_compatibility.specs.Laws.{ComparisonsRest}
use Rattle.btf_compatibility.specs.TypeCompatibility.{compared_ids}
use Rattle.btf_compatibility.proofs.Agreed.{types_rest}
use Rattle.btf_compatibility.proofs.FieldsAgreed.{fields_rest}
use Rattle.btf_compatibility.proofs.Held.{compared_are_held, fields_are_held}

-- Each table agrees with itself on all ids.
all_reached : (leads_to : BtfType → List ℕ) (t : Option BtfType) → IfSome t (λ u. All (λ next. true ≡ true) (leads_to u))
all_reached leads_to None = tt
all_reached leads_to (Some t) = λ k d lt. refl

itself : (leads_to : BtfType → List ℕ) (target : Table) → AgreeOn leads_to (λ _. true) target target
itself leads_to target = record { same = λ id here. refl; closed = λ id here. all_reached leads_to (type_by_id target id) }

own_name : (one other : Table) (t : Option BtfType) → IfSome t (λ u. All (λ offset. text_at other.strings offset ≡ text_at one.strings offset) (name_offset_of u ∷ item_names u)) → IfSome t (λ u. text_at other.strings (name_offset_of u) ≡ text_at one.strings (name_offset_of u))
own_name one other None h = tt
own_name one other (Some t) h = All-head (λ offset. text_at other.strings offset ≡ text_at one.strings offset) (name_offset_of t) (item_names t) h

names_agree : (reached : ℕ → Bool) (one other : Table) → AgreeOnTexts reached one other → AgreeOnNames reached one other
names_agree reached one other texts = record { same = λ id here. own_name one other (type_by_id one id) (texts.same id here) }

no_names : (target : Table) (t : Option BtfType) → IfSome t (λ u. text_at target.strings (name_offset_of u) ≡ text_at target.strings (name_offset_of u))
no_names target None = tt
no_names target (Some t) = refl

own_names : (target : Table) → AgreeOnNames (λ _. true) target target
own_names target = record { same = λ id here. no_names target (type_by_id target id) }

pub comparisons_rest : ComparisonsRest
comparisons_rest = record {
  fields = λ reached one other records texts l here target r.
      (fields_rest one l target r).alike reached (λ _. true) other target (fields_are_held.agree reached one other records) (names_agree reached one other texts) (itself field_ids target) (own_names target) here refl;
  types = λ reached one other records l here target r.
      (types_rest one l target r).alike reached (λ _. true) other target (compared_are_held.agree reached one other records) (itself compared_ids target) here refl;
}

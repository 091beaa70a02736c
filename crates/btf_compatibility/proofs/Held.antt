-- The ids that comparisons follow are among those that the records hold.
use Rattle.std.proofs.Common.{◌≡◌, ℕ, Bool, true, List, [], ◌∷◌, ◌++◌, Option, None, Some}
use Rattle.std.specs.Prelude.{All, IfSome, map}
use Rattle.std.proofs.lemmas.List.Elements.{All-append, All-cons, All-head, All-nil, All-tail}
use Rattle.btf_compatibility.specs.FieldCompatibility.{field_ids}
use Rattle.btf_compatibility.specs.TypeCompatibility.{compared_ids}
use Rattle.btf_records.specs.declared.functions.FuncProto.{FuncProto}
use Rattle.btf_records.specs.declared.item.BtfArray.{BtfArray}
use Rattle.btf_records.specs.declared.types.BtfType.{BtfType}
use Rattle.btf_records.specs.declared.types.BtfType.TheVariants as types
use Rattle.btf_tables.specs.Holdings.{AreHeld, held_ids}
use Rattle.btf_tables.specs.Tables.{type_by_id}

element_held : (reached : ℕ → Bool) (array : BtfArray) → All (λ id. reached id ≡ true) (array.element_type ∷ array.index_type ∷ []) → All (λ id. reached id ≡ true) (array.element_type ∷ [])
element_held reached array h = All-cons (λ id. reached id ≡ true) array.element_type [] (All-head (λ id. reached id ≡ true) array.element_type (array.index_type ∷ []) h) (All-nil (λ id. reached id ≡ true))

func_proto_held : (reached : ℕ → Bool) (t : FuncProto) → All (λ id. reached id ≡ true) (t.return_type ∷ map (λ p. p.btf_type) t.params) → All (λ id. reached id ≡ true) (map (λ p. p.btf_type) t.params ++ t.return_type ∷ [])
func_proto_held reached t h =
    let P = λ (id : ℕ). reached id ≡ true in
    let ids = map (λ p. p.btf_type) t.params in
    All-append P ids (t.return_type ∷ []) (All-tail P t.return_type ids h) (All-cons P t.return_type [] (All-head P t.return_type ids h) (All-nil P))

compared_held : (reached : ℕ → Bool) (t : BtfType) → All (λ id. reached id ≡ true) (held_ids t) → All (λ id. reached id ≡ true) (compared_ids t)
compared_held reached (types.Const t) h = h
compared_held reached (types.Volatile t) h = h
compared_held reached (types.Restrict t) h = h
compared_held reached (types.Ptr t) h = h
compared_held reached (types.Typedef t) h = h
compared_held reached (types.Array t) h = element_held reached t.array h
compared_held reached (types.FuncProto t) h = func_proto_held reached t h
compared_held reached (types.TypeTag t) h = h
compared_held reached _ h = All-nil (λ id. reached id ≡ true)

field_held : (reached : ℕ → Bool) (t : BtfType) → All (λ id. reached id ≡ true) (held_ids t) → All (λ id. reached id ≡ true) (field_ids t)
field_held reached (types.Const t) h = h
field_held reached (types.Volatile t) h = h
field_held reached (types.Restrict t) h = h
field_held reached (types.Typedef t) h = h
field_held reached (types.Array t) h = element_held reached t.array h
field_held reached (types.TypeTag t) h = h
field_held reached _ h = All-nil (λ id. reached id ≡ true)

closed_by : (leads_to : BtfType → List ℕ) (reached : ℕ → Bool) (t : Option BtfType) → ((u : BtfType) → All (λ id. reached id ≡ true) (held_ids u) → All (λ id. reached id ≡ true) (leads_to u)) → IfSome t (λ u. All (λ id. reached id ≡ true) (held_ids u)) → IfSome t (λ u. All (λ id. reached id ≡ true) (leads_to u))
closed_by leads_to reached None held h = tt
closed_by leads_to reached (Some u) held h = held u h

are_held : (leads_to : BtfType → List ℕ) → ((reached : ℕ → Bool) (t : BtfType) → All (λ id. reached id ≡ true) (held_ids t) → All (λ id. reached id ≡ true) (leads_to t)) → AreHeld leads_to
are_held leads_to held = record {
  closed = held;
  agree = λ reached one other agree. record {
    same = agree.same;
    closed = λ id here. closed_by leads_to reached (type_by_id one id) (held reached) (agree.closed id here);
  };
}

pub compared_are_held : AreHeld compared_ids
compared_are_held = are_held compared_ids compared_held

pub fields_are_held : AreHeld field_ids
fields_are_held = are_held field_ids field_held

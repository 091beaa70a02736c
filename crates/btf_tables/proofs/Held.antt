-- The ids that a look-up follows are among those that the records hold.
use Rattle.std.proofs.Common.{◌≡◌, ℕ, true, List, [], ◌∷◌, Option, None, Some}
use Rattle.std.specs.Prelude.{All, IfSome, map}
use Rattle.std.proofs.lemmas.List.Elements.{All-cons, All-head, All-nil}
use Rattle.btf_records.specs.declared.types.BtfType.{BtfType}
use Rattle.btf_records.specs.declared.types.BtfType.TheVariants as types
use Rattle.btf_tables.specs.Agreement.{chain_ids, size_ids}
use Rattle.btf_tables.specs.Holdings.{AreHeld, held_ids}
use Rattle.btf_tables.specs.Tables.{type_by_id}

chain_held : (P : ℕ → Type 0) (t : BtfType) → All P (held_ids t) → All P (chain_ids t)
chain_held P types.Unknown h = All-nil P
chain_held P (types.Fwd t) h = All-nil P
chain_held P (types.Const t) h = h
chain_held P (types.Volatile t) h = h
chain_held P (types.Restrict t) h = h
chain_held P (types.Ptr t) h = All-nil P
chain_held P (types.Typedef t) h = h
chain_held P (types.Func t) h = All-nil P
chain_held P (types.Int t) h = All-nil P
chain_held P (types.Float t) h = All-nil P
chain_held P (types.Enum t) h = All-nil P
chain_held P (types.Array t) h = All-nil P
chain_held P (types.Struct t) h = All-nil P
chain_held P (types.Union t) h = All-nil P
chain_held P (types.FuncProto t) h = All-nil P
chain_held P (types.Var t) h = All-nil P
chain_held P (types.DataSec t) h = All-nil P
chain_held P (types.DeclTag t) h = All-nil P
chain_held P (types.TypeTag t) h = h
chain_held P (types.Enum64 t) h = All-nil P

size_held : (P : ℕ → Type 0) (t : BtfType) → All P (held_ids t) → All P (size_ids t)
size_held P types.Unknown h = All-nil P
size_held P (types.Fwd t) h = All-nil P
size_held P (types.Const t) h = h
size_held P (types.Volatile t) h = h
size_held P (types.Restrict t) h = h
size_held P (types.Ptr t) h = All-nil P
size_held P (types.Typedef t) h = h
size_held P (types.Func t) h = h
size_held P (types.Int t) h = All-nil P
size_held P (types.Float t) h = All-nil P
size_held P (types.Enum t) h = All-nil P
size_held P (types.Array t) h = All-cons P t.array.element_type [] (All-head P t.array.element_type (t.array.index_type ∷ []) h) (All-nil P)
size_held P (types.Struct t) h = All-nil P
size_held P (types.Union t) h = All-nil P
size_held P (types.FuncProto t) h = All-cons P t.return_type [] (All-head P t.return_type (map (λ p. p.btf_type) t.params) h) (All-nil P)
size_held P (types.Var t) h = h
size_held P (types.DataSec t) h = All-nil P
size_held P (types.DeclTag t) h = h
size_held P (types.TypeTag t) h = h
size_held P (types.Enum64 t) h = All-nil P

-- A set of ids that is closed under the ids that records hold is closed under the ids that a
-- look-up follows.
closed_by : (leads_to : BtfType → List ℕ) (P : ℕ → Type 0) (t : Option BtfType) → ((u : BtfType) → All P (held_ids u) → All P (leads_to u)) → IfSome t (λ u. All P (held_ids u)) → IfSome t (λ u. All P (leads_to u))
closed_by leads_to P None held h = tt
closed_by leads_to P (Some u) held h = held u h

are_held : (leads_to : BtfType → List ℕ) → ((P : ℕ → Type 0) (t : BtfType) → All P (held_ids t) → All P (leads_to t)) → AreHeld leads_to
are_held leads_to held = record {
  closed = λ reached. held (λ id. reached id ≡ true);
  agree = λ reached one other agree. record {
    same = agree.same;
    closed = λ id here. closed_by leads_to (λ next. reached next ≡ true) (type_by_id one id) (held (λ next. reached next ≡ true)) (agree.closed id here);
  };
}

pub chains_are_held : AreHeld chain_ids
chains_are_held = are_held chain_ids chain_held

pub sizes_are_held : AreHeld size_ids
sizes_are_held = are_held size_ids size_held

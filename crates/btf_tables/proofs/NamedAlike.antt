-- A look-up by kind and name depends on the records up to the one that is found.
use Rattle.std.proofs.Common.{◌≡◌, ◌≢◌, ℕ, List, Option, None, Some, ◌∙◌, arith, refl}
use Rattle.std.specs.Option.{IsSomeAnd, option_map}
use Rattle.std.specs.Prelude.{IfSome, option_and_then}
use Rattle.btf_tables.specs.Agreement.{FoundAlike, name_of}
use Rattle.btf_tables.specs.TypesByName.{IsFirstNamed}
use Rattle.btf_tables.specs.Tables.{Table, type_by_id}
use Rattle.string_table.specs.Texts.{text_at}
use Rattle.btf_records.specs.Fields.{kind_of_type, name_offset_of}
use Rattle.btf_records.specs.declared.kind.BtfKind.{BtfKind}
use Rattle.btf_records.specs.declared.types.BtfType.{BtfType}

named_alike : (one other : Table) (name : List ℕ) (kind : BtfKind) (t u : Option BtfType) → option_map kind_of_type u ≡ option_map kind_of_type t → IfSome t (λ t. kind_of_type t ≡ kind → option_and_then (λ u. text_at other.strings (name_offset_of u)) u ≡ text_at one.strings (name_offset_of t)) → IsSomeAnd t (λ t. (kind_of_type t ≡ kind) × (text_at one.strings (name_offset_of t) ≡ Some name)) → IsSomeAnd u (λ t. (kind_of_type t ≡ kind) × (text_at other.strings (name_offset_of t) ≡ Some name))
named_alike one other name kind None u kinds same is = absurd is
named_alike one other name kind (Some t) None kinds same is = absurd cc
named_alike one other name kind (Some t) (Some u) kinds same is =
    let of_kind : kind_of_type u ≡ kind_of_type t = cc in
    (of_kind ∙ is.0, same is.0 ∙ is.1)

other_alike : (one other : Table) (name : List ℕ) (kind : BtfKind) (t u : Option BtfType) → option_map kind_of_type u ≡ option_map kind_of_type t → IfSome t (λ t. kind_of_type t ≡ kind → option_and_then (λ u. text_at other.strings (name_offset_of u)) u ≡ text_at one.strings (name_offset_of t)) → IfSome t (λ t. kind_of_type t ≡ kind → IsSomeAnd (text_at one.strings (name_offset_of t)) (λ text. text ≢ name)) → IfSome u (λ t. kind_of_type t ≡ kind → IsSomeAnd (text_at other.strings (name_offset_of t)) (λ text. text ≢ name))
other_alike one other name kind t None kinds same is = tt
other_alike one other name kind None (Some u) kinds same is = absurd cc
other_alike one other name kind (Some t) (Some u) kinds same is = λ k.
    let of_kind : kind_of_type t ≡ kind = cc in
    rw (same of_kind) (is of_kind)

same_names : (one other : Table) (kind : BtfKind) (id : ℕ) (t : Option BtfType) → type_by_id one id ≡ t → IfSome t (λ t. kind_of_type t ≡ kind → name_of other id ≡ name_of one id) → IfSome t (λ t. kind_of_type t ≡ kind → name_of other id ≡ text_at one.strings (name_offset_of t))
same_names one other kind id None is same = tt
same_names one other kind id (Some t) is same = λ k. rw is at (same k)

pub found_alike : (table : Table) (name : List ℕ) (kind : BtfKind) (id : ℕ) → IsFirstNamed table name kind id → FoundAlike table name kind id
found_alike table name kind id found = record {
  alike = λ other agree. record {
    named = named_alike table other name kind (type_by_id table id) (type_by_id other id) (agree.kinds id (omega arith)) (same_names table other kind id (type_by_id table id) refl (agree.names id (omega arith))) found.named;
    first = λ lesser lt. other_alike table other name kind (type_by_id table lesser) (type_by_id other lesser) (agree.kinds lesser (omega (arith, lt))) (same_names table other kind lesser (type_by_id table lesser) refl (agree.names lesser (omega (arith, lt)))) (found.first lesser lt);
  };
}

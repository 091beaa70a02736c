-- A look-up by kind and name, record by record.
use Rattle.std.proofs.Common.{◌≡◌, ◌≢◌, ℕ, zero, suc, ◌+◌, ◌-◌, ◌<◌, ◌≤◌, false, List, [], ◌∷◌, length, drop, None, Some, refl, sym, subst, ◌∙◌, arith, slice_get, below_more, nat_eq, inl, inr}
use Rattle.std.specs.Option.{IsSomeAnd}
use Rattle.std.specs.Prelude.{◌⊎◌}
use Rattle.std.proofs.lemmas.Option.{slice_get_past}
use Rattle.std.proofs.lemmas.Bool.Decides.{nat_tests}
use Rattle.btf_tables.specs.TypesByName.{IsNotNamed, NameFault}
use Rattle.btf_records.specs.declared.error.BtfError.{BtfError}
use Rattle.btf_records.specs.declared.error.BtfError.TheVariants.{InvalidStringOffset}
use Rattle.btf_records.specs.Fields.{kind_of_type, name_offset_of}
use Rattle.btf_tables.specs.Tables.{Table, type_by_id}
use Rattle.string_table.specs.Texts.{text_at}
use Rattle.btf_records.specs.declared.kind.BtfKind.{BtfKind}
use Rattle.btf_records.specs.declared.types.BtfType.{BtfType}
use Rattle.btf_records.specs.declared.types.BtfType.TheVariants.{Unknown}

-- The records of the table, including void.
abbrev pub all_types : Table → List BtfType
all_types table = Unknown ∷ table.types

first_left : {X : Type 0} (xs rest : List X) (i : ℕ) (x : X) → drop i xs ≡ x ∷ rest → slice_get xs i ≡ Some x
first_left [] rest zero x e = absurd cc
first_left [] rest (suc i) x e = absurd cc
first_left (y ∷ ys) rest zero x e = cc
first_left (y ∷ ys) rest (suc i) x e = first_left ys rest i x e

pub by_place : (table : Table) (id : ℕ) → type_by_id table id ≡ slice_get (all_types table) id
by_place table zero = refl
by_place table (suc id) =
    let same : suc id - 1 ≡ id = omega arith in
    let test : nat_eq (suc id) 0 ≡ false = grind (arith, nat_tests) in
    rw (test, same) refl

pub known_here : (table : Table) (id : ℕ) (t : BtfType) (rest : List BtfType) → drop id (all_types table) ≡ t ∷ rest → type_by_id table id ≡ Some t
known_here table id t rest e = by_place table id ∙ first_left (all_types table) rest id t e

left_after : {X : Type 0} (xs rest : List X) (i : ℕ) (x : X) → drop i xs ≡ x ∷ rest → drop (i + 1) xs ≡ rest
left_after [] rest zero x e = absurd cc
left_after [] rest (suc i) x e = absurd cc
left_after (y ∷ ys) rest zero x e = cc
left_after (y ∷ ys) rest (suc i) x e =
    let same : suc i + 1 ≡ suc (i + 1) = omega arith in
    rw same (left_after ys rest i x e)

pub rest_here : (table : Table) (id : ℕ) (t : BtfType) (rest : List BtfType) → drop id (all_types table) ≡ t ∷ rest → drop (id + 1) (all_types table) ≡ rest
rest_here table id t rest e = left_after (all_types table) rest id t e

-- None of the records before an id has the kind and the name.
pub record NoneBefore (table : Table) (name : List ℕ) (kind : BtfKind) (id : ℕ) : Type 0 where
  pub none : (lesser : ℕ) → lesser < id → IsNotNamed table name kind lesser

pub none_more : (table : Table) (name : List ℕ) (kind : BtfKind) (id : ℕ) (t : BtfType) (rest : List BtfType) → NoneBefore table name kind id → drop id (all_types table) ≡ t ∷ rest → (kind_of_type t ≡ kind → IsSomeAnd (text_at table.strings (name_offset_of t)) (λ text. text ≢ name)) → NoneBefore table name kind (id + 1)
none_more table name kind id t rest before here other =
    let is : type_by_id table id ≡ Some t = known_here table id t rest here in
    let at : IsNotNamed table name kind id = rw is other in
    record { none = below_more (IsNotNamed table name kind) id before.none at }

past_end : {X : Type 0} (xs : List X) (i : ℕ) → drop i xs ≡ [] → length xs ≤ i
past_end [] i e = omega arith
past_end (x ∷ xs) zero e = absurd cc
past_end (x ∷ xs) (suc i) e = let h = past_end xs i e in omega arith

split : (a b : ℕ) → (a < b) ⊎ (b ≤ a)
split a b = grind arith

-- No record has the kind and the name.
pub none_left : (table : Table) (name : List ℕ) (kind : BtfKind) (id : ℕ) → NoneBefore table name kind id → drop id (all_types table) ≡ [] → (other : ℕ) → IsNotNamed table name kind other
none_left table name kind id before end other =
    elim (split other id) [
      | inl lesser ↦ before.none other lesser
      | inr past ↦
          let none : type_by_id table other ≡ None = by_place table other ∙ slice_get_past (all_types table) other (let h = past_end (all_types table) id end in omega arith) in
          rw none tt
    ]

-- The name of this record can't be read, and no record before it has the kind and the name.
pub fault_here : (table : Table) (name : List ℕ) (kind : BtfKind) (id : ℕ) (t : BtfType) (rest : List BtfType) (e : BtfError) → NoneBefore table name kind id → drop id (all_types table) ≡ t ∷ rest → (kind_of_type t ≡ kind) × (e ≡ InvalidStringOffset (name_offset_of t)) × (text_at table.strings (name_offset_of t) ≡ None) → NameFault table name kind e
fault_here table name kind id t rest e before here is =
    subst (λ (x : BtfError). NameFault table name kind x) (sym is.1) (record { id = id; unreadable = rw (known_here table id t rest here) (is.0, refl, is.2); first = before.none })

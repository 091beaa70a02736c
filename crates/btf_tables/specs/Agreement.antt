-- The records that a result depends on. The result is the same for every other table that has these
-- records.
use Rattle.std.specs.Prelude.{◌≡◌, ℕ, Bool, true, ◌≤◌, List, All, IfSome, Option, option_and_then}
use Rattle.std.specs.Option.{option_map, option_to_list}
use Rattle.btf_tables.specs.ResolvedTypes.{modified_type}
use Rattle.btf_tables.specs.TypeSizes.{sized_by}
use Rattle.btf_tables.specs.TypesByName.{IsFirstNamed}
use Rattle.btf_records.specs.Fields.{kind_of_type, name_offset_of}
use Rattle.btf_tables.specs.Tables.{Table, type_by_id}
use Rattle.string_table.specs.Texts.{text_at}
use Rattle.btf_records.specs.declared.kind.BtfKind.{BtfKind}
use Rattle.btf_records.specs.declared.types.BtfType.{BtfType}

-- The name of a type, if it can be read.
abbrev pub name_of : Table → ℕ → Option (List ℕ)
name_of table id =
    option_and_then (λ t. text_at table.strings (name_offset_of t)) (type_by_id table id)

-- The reached ids have the same records in both tables, and lead only to reached ids.
pub record AgreeOn (leads_to : BtfType → List ℕ) (reached : ℕ → Bool) (one other : Table)
    : Type 0 where
  pub same : (id : ℕ) → reached id ≡ true → type_by_id other id ≡ type_by_id one id
  pub closed : (id : ℕ)
      → reached id ≡ true
      → IfSome (type_by_id one id) (λ t. All (λ next. reached next ≡ true) (leads_to t))

-- The names of the reached ids are the same in both tables.
pub record AgreeOnNames (reached : ℕ → Bool) (one other : Table) : Type 0 where
  pub same : (id : ℕ)
      → reached id ≡ true
      → IfSome (type_by_id one id) (λ t.
      text_at other.strings (name_offset_of t) ≡ text_at one.strings (name_offset_of t))

-- A result for an id depends only on the ids that are reached from it.
pub record RestsOn {A : Type 0} (leads_to : BtfType → List ℕ) (table : Table) (id : ℕ)
    (ask : Table → A) : Type 0 where
  pub alike : (reached : ℕ → Bool) (other : Table)
      → AgreeOn leads_to reached table other
      → reached id ≡ true
      → ask other ≡ ask table

-- The id `end` is reached if `id` is reached.
pub record IsReached (leads_to : BtfType → List ℕ) (table : Table) (id end : ℕ) : Type 0 where
  pub reached : (reached : ℕ → Bool) (other : Table)
      → AgreeOn leads_to reached table other
      → reached id ≡ true
      → reached end ≡ true

-- A result for ids of two tables depends only on the ids that are reached from them.
pub record RestsOnBoth {A : Type 0} (leads_to : BtfType → List ℕ) (local : Table) (l : ℕ)
    (target : Table) (r : ℕ) (ask : Table → Table → A) : Type 0 where
  pub alike : (reached_left reached_right : ℕ → Bool) (one other : Table)
      → AgreeOn leads_to reached_left local one
      → AgreeOn leads_to reached_right target other
      → reached_left l ≡ true
      → reached_right r ≡ true
      → ask one other ≡ ask local target

-- A result for ids of two tables depends only on the reached ids and their names.
pub record RestsOnNames {A : Type 0} (leads_to : BtfType → List ℕ) (local : Table) (l : ℕ)
    (target : Table) (r : ℕ) (ask : Table → Table → A) : Type 0 where
  pub alike : (reached_left reached_right : ℕ → Bool) (one other : Table)
      → AgreeOn leads_to reached_left local one
      → AgreeOnNames reached_left local one
      → AgreeOn leads_to reached_right target other
      → AgreeOnNames reached_right target other
      → reached_left l ≡ true
      → reached_right r ≡ true
      → ask one other ≡ ask local target

-- The ids that a chain of modifiers follows.
abbrev pub chain_ids : BtfType → List ℕ
chain_ids t = option_to_list (modified_type t)

-- The ids that the walk to a size follows.
abbrev pub size_ids : BtfType → List ℕ
size_ids t = option_to_list (option_map (λ by. by.1) (sized_by t))

-- The records up to an id have the same kinds in both tables, and the records of one kind have the
-- same names.
pub record AgreeUpTo (kind : BtfKind) (last : ℕ) (one other : Table) : Type 0 where
  pub kinds : (id : ℕ)
      → id ≤ last
      → option_map kind_of_type (type_by_id other id) ≡ option_map kind_of_type (type_by_id one id)
  pub names : (id : ℕ)
      → id ≤ last
      → IfSome (type_by_id one id) (λ t. kind_of_type t ≡ kind → name_of other id ≡ name_of one id)

-- An id that is found by kind and name is found in every table that agrees up to the id.
pub record FoundAlike (table : Table) (name : List ℕ) (kind : BtfKind) (id : ℕ) : Type 0 where
  pub alike : (other : Table) → AgreeUpTo kind id table other → IsFirstNamed other name kind id

-- The ids and the names that a record holds. A set of ids that is closed under the ids that its
-- records hold is closed under every look-up and comparison.
use Rattle.std.specs.Prelude.{◌≡◌, ℕ, Bool, true, List, [], ◌∷◌, ◌++◌, All, IfSome, map}
use Rattle.std.specs.Option.{option_map_or, option_to_list}
use Rattle.btf_tables.specs.Agreement.{AgreeOn}
use Rattle.btf_tables.specs.Tables.{Table, type_by_id}
use Rattle.string_table.specs.Texts.{text_at}
use Rattle.btf_records.specs.Fields.{name_offset_of, type_of}
use Rattle.btf_records.specs.declared.types.BtfType.{BtfType}
use Rattle.btf_records.specs.declared.types.BtfType.TheVariants as types

abbrev pub held_ids : BtfType → List ℕ
held_ids (types.Array t) = t.array.element_type ∷ t.array.index_type ∷ []
held_ids (types.Struct t) = map (λ m. m.btf_type) t.members
held_ids (types.Union t) = map (λ m. m.btf_type) t.members
held_ids (types.FuncProto t) = t.return_type ∷ map (λ p. p.btf_type) t.params
held_ids (types.DataSec t) = map (λ e. e.btf_type) t.entries
held_ids t = option_to_list (type_of t)

-- The name offsets of the items of a record. A UNION also has those of the enum that it stands for.
abbrev pub item_names : BtfType → List ℕ
item_names (types.Struct t) = map (λ m. m.name_offset) t.members
item_names (types.Union t) =
    map (λ m. m.name_offset) t.members
    ++ option_map_or (λ e. map (λ v. v.name_offset) e.variants) t.fallback []
item_names (types.Enum t) = map (λ v. v.name_offset) t.variants
item_names (types.Enum64 t) = map (λ v. v.name_offset) t.variants
item_names (types.FuncProto t) = map (λ p. p.name_offset) t.params
item_names _ = []

-- The name offsets of a record and its items.
abbrev pub held_names : BtfType → List ℕ
held_names t = name_offset_of t ∷ item_names t

-- The names that reached records hold are the same texts in both tables.
pub record AgreeOnTexts (reached : ℕ → Bool) (one other : Table) : Type 0 where
  pub same : (id : ℕ)
      → reached id ≡ true
      → IfSome (type_by_id one id) (λ t.
      All (λ offset. text_at other.strings offset ≡ text_at one.strings offset) (held_names t))

-- The ids that a look-up follows are among those that the records hold.
pub record AreHeld (leads_to : BtfType → List ℕ) : Type 0 where
  pub closed : (reached : ℕ → Bool) (t : BtfType)
      → All (λ id. reached id ≡ true) (held_ids t)
      → All (λ id. reached id ≡ true) (leads_to t)
  pub agree : (reached : ℕ → Bool) (one other : Table)
      → AgreeOn held_ids reached one other
      → AgreeOn leads_to reached one other

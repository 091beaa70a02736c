-- The layout of the records of a table in memory: the record of each id at its offset in the type
-- bytes, and beside them the enums that unions stand for, which have no bytes.
use Rattle.std.specs.Prelude.{◌≡◌, ◌≢◌, ℕ, suc, ◌<◌, ◌^◌, List, [], ◌∷◌, length, drop, All, Option, None, Some}
use Rattle.std.specs.List.{flat_map}
use Rattle.std.specs.Map.{lookup}
use Rattle.std.specs.BTreeMap.{is_at}
use Rattle.std.specs.Option.{option_map_or}
use Rattle.std.specs.Ordering.{nat_cmp}
use Rattle.btf_encoding.specs.Records.{ReadsSame, Spells, record_bytes, type_in, with_fallback}
use Rattle.btf_records.specs.declared.compound.Enum64Fallback.{Enum64Fallback}
use Rattle.btf_records.specs.declared.types.BtfType.{BtfType}
use Rattle.btf_records.specs.declared.words.Endianness.{Endianness}

-- The records of a table, from id 1 on, and the byte order of their numbers.
pub record RecordList : Type 0 where
  pub order : Endianness
  pub types : List BtfType

-- The enum that the union of an id stands for.
abbrev pub fallback_at : List (ℕ × Enum64Fallback) → ℕ → Option Enum64Fallback
fallback_at fallbacks id = lookup (is_at (nat_cmp id)) fallbacks

-- The record of an id, by its offset.
abbrev pub type_at : Endianness → List ℕ → List (ℕ × Enum64Fallback) → ℕ → ℕ → BtfType
type_at order bytes fallbacks id place =
    option_map_or (λ fallback. with_fallback (Some fallback) (type_in order (drop place bytes)))
    (fallback_at fallbacks id) (type_in order (drop place bytes))

-- The records at some offsets, from an id on.
unfoldable pub types_at : Endianness
    → List ℕ
    → List (ℕ × Enum64Fallback)
    → ℕ
    → List ℕ
    → List BtfType
types_at order bytes fallbacks id [] = []
types_at order bytes fallbacks id (place ∷ places) =
    type_at order bytes fallbacks id place ∷ types_at order bytes fallbacks (suc id) places

-- A record lies at each offset. No id after the last stands for an enum. The bytes are those
-- records, one after the other, and as many as the records are written with.
pub record IsLaidOut (order : Endianness) (bytes : List ℕ) (fallbacks : List (ℕ × Enum64Fallback))
    (places : List ℕ) : Type 0 where
  pub stand : All (λ place. ReadsSame order (drop place bytes)) places
  pub in_use : (id : ℕ) → length places < id → fallback_at fallbacks id ≡ None
  pub spelled : Spells order (types_at order bytes [] 1 places) bytes
  pub tight : length bytes
      ≡ length (flat_map (record_bytes order) (types_at order bytes fallbacks 1 places))
  pub few_bytes : length bytes < 2 ^ 32
  pub few_types : length places < 2 ^ 32

-- The id stands for the new enum, if there is one. The other ids are unchanged.
pub record Entered (old new : List (ℕ × Enum64Fallback)) (id : ℕ) (fallback : Option Enum64Fallback)
    : Type 0 where
  pub here : fallback_at new id ≡ fallback
  pub others : (other : ℕ) → other ≢ id → fallback_at new other ≡ fallback_at old other

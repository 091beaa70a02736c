-- The records that a rewriting keeps, and the features that the rewritten records need.
use Rattle.std.specs.Prelude.{◌≡◌, ℕ, ◌==◌, ◌&&◌, Bool, true, if◌then◌else◌, List, [], ◌∷◌, drop, length, Some}
use Rattle.btf_records.specs.declared.feature.BtfFeature.{BtfFeature}
use Rattle.btf_records.specs.declared.feature.BtfFeature.TheVariants as feature
use Rattle.btf_records.specs.declared.types.BtfType.{BtfType}
use Rattle.btf_records.specs.declared.types.BtfType.TheVariants as types
use Rattle.btf_sanitize.specs.Additions.{Added}
use Rattle.btf_storage.specs.Ids.{record_of_id}
use Rattle.btf_sanitize.specs.Facts.{Facts}
use Rattle.btf_sanitize.specs.Rewritten.{rewritten}
use Rattle.btf_sanitize.specs.Stays.{stays}

-- A section that had no size before the rewriting.
abbrev pub came_unsized : BtfType → Bool
came_unsized (types.DataSec t) = t.size == 0
came_unsized _ = true

-- The features that a rewritten record needs, by the original record. A section without entries
-- that had a size needs no more than a section with entries.
abbrev pub needed_after : BtfType → BtfType → List BtfFeature
needed_after t (types.Func r) = feature.Func ∷ (if r.vlen == 1 then feature.FuncGlobal ∷ [] else [])
needed_after t (types.FuncProto r) = feature.Func ∷ []
needed_after t (types.Var r) = feature.DataSec ∷ []
needed_after t (types.DataSec r) =
    feature.DataSec
    ∷ (if (length r.entries == 0) && came_unsized t then feature.DataSecZero ∷ [] else [])
needed_after t (types.Float r) = feature.Float ∷ []
needed_after t (types.DeclTag r) = feature.DeclTag ∷ []
needed_after t (types.TypeTag r) = feature.TypeTag ∷ []
needed_after t (types.Enum r) = if r.info.flag then feature.Enum64 ∷ [] else []
needed_after t (types.Enum64 r) = feature.Enum64 ∷ []
needed_after t _ = []

abbrev pub AllGranted : (BtfFeature → Bool) → List BtfFeature → Type 0
AllGranted grants [] = Unit {0}
AllGranted grants (f ∷ fs) = (grants f ≡ true) × AllGranted grants fs

-- Each of some appended types needs only granted features.
abbrev pub EachGranted : (BtfFeature → Bool) → List BtfType → Type 0
EachGranted grants [] = Unit {0}
EachGranted grants (r ∷ rs) = AllGranted grants (needed_after r r) × EachGranted grants rs

-- The record of an id is rewritten by the rule of its kind, and needs only granted features.
pub record Becomes (known : Facts) (types : List BtfType) (id : ℕ) (t : BtfType) : Type 0 where
  pub added_before : Added
  pub here : record_of_id types id ≡ Some (rewritten known added_before t)
  pub granted : AllGranted known.grants (needed_after t (rewritten known added_before t))

-- Each record is rewritten so, and is the same if it stays as it is. The types that follow these
-- records need only granted features.
pub record Keeps (known : Facts) (types : List BtfType) : Type 0 where
  pub each : (id : ℕ) (t : BtfType)
      → record_of_id known.types id ≡ Some t
      → Becomes known types id t
  pub left : (id : ℕ) (t : BtfType)
      → record_of_id known.types id ≡ Some t
      → stays known t ≡ true
      → record_of_id types id ≡ Some t
  pub added : EachGranted known.grants (drop (length known.types) types)

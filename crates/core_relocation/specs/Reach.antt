-- The types that type relocations reach: the types of the relocations, and with each type all types
-- that its record holds.
use Rattle.std.specs.Prelude.{◌≡◌, ◌==◌, ◌&&◌, ◌||◌, ℕ, zero, suc, Bool, true, false, length, All, IfSome}
use Rattle.std.specs.List.{list_any}
use Rattle.std.specs.Option.{option_map_or}
use Rattle.btf_tables.specs.Holdings.{held_ids}
use Rattle.btf_tables.specs.Tables.{Table, type_by_id}
use Rattle.core_relocation.specs.Relocations.{SectionInfos}

-- Whether an id is the type of a relocation.
abbrev pub is_relocated_type : SectionInfos → ℕ → Bool
is_relocated_type section_infos id =
    list_any (λ x. list_any (λ r. r.type_id == id) x.records) section_infos

-- Whether the record of an id holds another id.
abbrev pub holds_id : Table → ℕ → ℕ → Bool
holds_id table id held =
    option_map_or (λ t. list_any (λ next. next == held) (held_ids t)) (type_by_id table id) false

-- Whether some number below another satisfies a test.
abbrev pub any_below : ℕ → (ℕ → Bool) → Bool
any_below zero test = false
any_below (suc n) test = test n || any_below n test

-- The ids that are reached in a number of steps. Each step adds the ids that the records of reached
-- ids hold.
abbrev pub reached_in : ℕ → Table → SectionInfos → ℕ → Bool
reached_in zero table section_infos id = is_relocated_type section_infos id
reached_in (suc n) table section_infos id =
    reached_in n table section_infos id
    || any_below (suc (length table.types)) (λ from.
    reached_in n table section_infos from && holds_id table from id)

-- The reach of type relocations. The table has one id more than records, and each step but the last
-- adds an id that has a record.
unfoldable pub reach_of : Table → SectionInfos → ℕ → Bool
reach_of table section_infos id =
    reached_in (suc (suc (length table.types))) table section_infos id

-- A set of ids has the types of all relocations, and with each id all ids that its record holds.
pub record IsReach (reached : ℕ → Bool) (table : Table) (section_infos : SectionInfos) : Type 0 where
  pub types : All (λ x. All (λ r. reached r.type_id ≡ true) x.records) section_infos
  pub closed : (id : ℕ)
      → reached id ≡ true
      → IfSome (type_by_id table id) (λ t. All (λ next. reached next ≡ true) (held_ids t))

-- The reach is the least of these sets.
pub record ReachIsLeast : Type 0 where
  pub is_reach : (table : Table) (section_infos : SectionInfos)
      → IsReach (reach_of table section_infos) table section_infos
  pub least : (reached : ℕ → Bool) (table : Table) (section_infos : SectionInfos)
      → IsReach reached table section_infos
      → (id : ℕ)
      → reach_of table section_infos id ≡ true
      → reached id ≡ true

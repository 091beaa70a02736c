-- Laws of type relocations.
use Rattle.std.specs.Prelude.{◌≡◌, ◌≢◌, ℕ, Bool, true, suc, List, [], ◌∷◌, length, IfOk, IfSome}
use Rattle.core_spec.specs.Laws.{AreAlike}
use Rattle.btf_tables.specs.Tables.{Table}
use Rattle.ebpf_items.specs.declared.relocation_kind.RelocationKind.{RelocationKind}
use Rattle.ebpf_items.specs.declared.relocation_kind.RelocationKind.TheVariants.{TypeIdLocal}
use Rattle.string_table.specs.Texts.{text_at}
use Rattle.core_match.specs.Candidates.{all_types, first_types}
use Rattle.core_resolve.specs.Matches.{searched_tables}
use Rattle.core_resolve.specs.OneTable.{outcome_in_one}
use Rattle.core_resolve.specs.RelocationOutcomes.{relocation_outcome}
use Rattle.core_resolve.specs.declared.relocation.TypeRelocation.{TypeRelocation}

-- In a list of one table, the types are those of the table, by id, and every kind searches it
-- except the id of an object's own type. The outcome of a relocation is that of the table alone.
pub record ListsOfOneTable : Type 0 where
  pub types : (target : Table) → all_types (target ∷ []) ≡ first_types 0 (suc (length target.types))
  pub searched : (kind : RelocationKind) (target : Table)
      → kind ≢ TypeIdLocal
      → searched_tables kind (target ∷ []) ≡ target ∷ []
  pub outcomes : (local : Table) (r : TypeRelocation) (target : Table)
      → relocation_outcome local r (target ∷ []) ≡ outcome_in_one local r target

-- The outcome of a type relocation is the same for every other table of the object's own types that
-- agrees on the records reached from its type, on their texts and on the access string.
pub record OutcomesRest : Type 0 where
  pub same : (reached : ℕ → Bool) (one other : Table) → AreAlike reached one other
      → (r : TypeRelocation) → reached r.type_id ≡ true
      → text_at other.strings r.access_str_off ≡ text_at one.strings r.access_str_off
      → (targets : List Table)
      → relocation_outcome other r targets ≡ relocation_outcome one r targets
  -- The type of the field that the instruction was compiled for, if there is one, is reached.
  pub field : (reached : ℕ → Bool) (one other : Table) → AreAlike reached one other
      → (r : TypeRelocation) → reached r.type_id ≡ true
      → (targets : List Table)
      → IfOk (relocation_outcome one r targets) (λ o.
      IfSome o.local_field (λ f. reached f.type_id ≡ true))

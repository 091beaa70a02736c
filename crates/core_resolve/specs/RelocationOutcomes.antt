-- The outcome of a type relocation.
use Rattle.std.specs.Prelude.{ℕ, ◌<◌, List, [], ◌∷◌, length, Option, None, Some, IfSome, Result, Ok}
use Rattle.core_spec.specs.FieldValues.{plain}
use Rattle.core_spec.specs.LocalPaths.{local_path}
use Rattle.core_spec.specs.PathValues.{path_value}
use Rattle.core_spec.specs.declared.error.AccessError.{AccessError}
use Rattle.core_spec.specs.declared.path.AccessPath.{AccessPath}
use Rattle.core_spec.specs.declared.value.RelocationValue.{RelocationValue}
use Rattle.btf_tables.specs.Tables.{Table}
use Rattle.ebpf_items.specs.declared.relocation_kind.RelocationKind.{RelocationKind}
use Rattle.ebpf_items.specs.declared.relocation_kind.RelocationKind.TheVariants as kinds
use Rattle.core_resolve.specs.Matches.{followed_by, kernel_matches, with_local}
use Rattle.core_resolve.specs.Outcomes.{outcome_of}
use Rattle.core_resolve.specs.declared.error.TypeRelocationError.{TypeRelocationError}
use Rattle.core_resolve.specs.declared.matches.Match.{Match}
use Rattle.core_resolve.specs.declared.resolved.Resolved.{Resolved}
use Rattle.core_resolve.specs.declared.resolved.Resolved.TheVariants.{Value}
use Rattle.core_resolve.specs.declared.relocation.RelocationOutcome.{RelocationOutcome}
use Rattle.core_resolve.specs.declared.relocation.TypeRelocation.{TypeRelocation}

-- The value in the object's own types, which must be computable. It isn't needed for the size of a
-- type.
abbrev pub local_value : Table → RelocationKind → AccessPath → Result RelocationValue AccessError
local_value local kinds.TypeSize path = Ok (plain 0)
local_value local kind path = path_value local kind path

-- The result of a relocation. For an id of the object's own types it is the local value.
abbrev pub resolved_by_kind : RelocationKind
    → RelocationValue
    → List Match
    → Result Resolved TypeRelocationError
resolved_by_kind kinds.TypeIdLocal value matches = Ok (Value value)
resolved_by_kind kind value matches = outcome_of kind matches

abbrev pub first_table : List Match → Option ℕ
first_table [] = None
first_table (m ∷ ms) = Some m.table

abbrev pub outcome_of_matches : RelocationKind
    → List Match
    → RelocationValue
    → Result RelocationOutcome TypeRelocationError
outcome_of_matches kind matches value =
    followed_by (resolved_by_kind kind value matches) (λ outcome.
    Ok (record { outcome = outcome; local_field = value.field; table = first_table matches }))

abbrev pub relocation_outcome : Table
    → TypeRelocation
    → List Table
    → Result RelocationOutcome TypeRelocationError
relocation_outcome local r targets =
    with_local (local_path local r.kind r.type_id r.access_str_off) (λ path.
    followed_by (kernel_matches r.kind local path targets) (λ matches.
    with_local (local_value local r.kind path) (outcome_of_matches r.kind matches)))

-- The table, if there is one, is one of these.
abbrev pub IsTableOf : List Table → Option ℕ → Type 0
IsTableOf targets table = IfSome table (λ place. place < length targets)

-- The object's own types and the tables of a kernel.
pub record Matched : Type 0 where
  pub local : Table
  pub targets : List Table

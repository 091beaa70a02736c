-- The outcome of a type relocation in a single table of a kernel, whose types are denoted by their
-- ids.
use Rattle.std.specs.Prelude.{ℕ, suc, Bool, false, List, [], ◌∷◌, ◌++◌, filter, find, length, Option, None, Some, Result, Ok, Err}
use Rattle.std.specs.List.{range_with_len}
use Rattle.std.specs.Option.{option_map_or, option_to_list}
use Rattle.core_spec.specs.LocalPaths.{local_path}
use Rattle.core_spec.specs.declared.path.AccessPath.{AccessPath}
use Rattle.core_spec.specs.declared.value.RelocationValue.{RelocationValue}
use Rattle.btf_records.specs.Fields.{name_offset_of}
use Rattle.btf_records.specs.declared.types.BtfType.{BtfType}
use Rattle.btf_tables.specs.Tables.{Table, type_by_id}
use Rattle.ebpf_items.specs.declared.relocation_kind.RelocationKind.{RelocationKind}
use Rattle.ebpf_items.specs.declared.relocation_kind.RelocationKind.TheVariants as kinds
use Rattle.core_match.specs.Candidates.{Wanted, is_named, is_unreadable, wanted_for}
use Rattle.core_match.specs.declared.kernel_type.KernelType.{KernelType}
use Rattle.core_resolve.specs.Matches.{followed_by, match_in, with_kernel, with_local, with_own_type}
use Rattle.core_resolve.specs.RelocationOutcomes.{resolved_by_kind, local_value}
use Rattle.core_resolve.specs.declared.error.TypeRelocationError.{TypeRelocationError}
use Rattle.core_resolve.specs.declared.error.TypeRelocationError.TheVariants.{UnreadableName}
use Rattle.core_resolve.specs.declared.matches.Match.{Match}
use Rattle.core_resolve.specs.declared.relocation.RelocationOutcome.{RelocationOutcome}
use Rattle.core_resolve.specs.declared.relocation.TypeRelocation.{TypeRelocation}

-- The type of an id in the single table.
abbrev pub only : ℕ → KernelType
only id = record { table = 0; type_id = id }

-- The ids of all types, with void.
abbrev pub ids_of : Table → List ℕ
ids_of target = range_with_len 0 (suc (length target.types))

abbrev pub is_so : (BtfType → Bool) → Table → ℕ → Bool
is_so test target id = option_map_or test (type_by_id target id) false

abbrev pub unreadable_name : Table → ℕ → TypeRelocationError
unreadable_name target id =
    UnreadableName (only id) (option_map_or name_offset_of (type_by_id target id) 0)

-- The ids of the types with the kind and name of the candidates. All names of types with the kind
-- must be readable.
abbrev pub named_ids : Wanted → Table → Result (List ℕ) TypeRelocationError
named_ids wanted target =
    option_map_or (λ id. Err (unreadable_name target id))
    (find (is_so (is_unreadable wanted target.strings) target) (ids_of target))
    (Ok (filter (is_so (is_named wanted target.strings) target) (ids_of target)))

-- The matches so far, followed by the matches among these types, in order.
unfoldable pub matches_among : RelocationKind
    → Table
    → AccessPath
    → Table
    → List Match
    → List ℕ
    → Result (List Match) TypeRelocationError
matches_among kind local path target done [] = Ok done
matches_among kind local path target done (id ∷ ids) =
    followed_by (with_kernel (only id) (match_in kind local path target (only id)) (λ m. Ok m)) (λ m.
    matches_among kind local path target (done ++ option_to_list m) ids)

-- The matches in the table. There are none for an id of the object's own types.
abbrev pub matches_in_one : RelocationKind
    → Table
    → AccessPath
    → Table
    → Wanted
    → Result (List Match) TypeRelocationError
matches_in_one kinds.TypeIdLocal local path target wanted = Ok []
matches_in_one kind local path target wanted =
    followed_by (named_ids wanted target) (matches_among kind local path target [])

-- The index of the table of the first match, if there is one. It is 0.
abbrev pub only_table : List Match → Option ℕ
only_table [] = None
only_table (m ∷ ms) = Some 0

abbrev pub settled_in_one : RelocationKind
    → List Match
    → RelocationValue
    → Result RelocationOutcome TypeRelocationError
settled_in_one kind matches value =
    followed_by (resolved_by_kind kind value matches) (λ outcome.
    Ok (record { outcome = outcome; local_field = value.field; table = only_table matches }))

abbrev pub outcome_in_one : Table
    → TypeRelocation
    → Table
    → Result RelocationOutcome TypeRelocationError
outcome_in_one local r target =
    with_local (local_path local r.kind r.type_id r.access_str_off) (λ path.
    with_own_type (wanted_for local path.type_id) (λ wanted.
    followed_by (matches_in_one r.kind local path target wanted) (λ matches.
    with_local (local_value local r.kind path) (settled_in_one r.kind matches))))

-- Paths in a kernel's types. The matches of all kinds for one part of a type are computed from the
-- same paths.
use Rattle.std.specs.Prelude.{◌≡◌, Bool, false, true, List, [], ◌∷◌, ◌++◌, All, IfOk, slice_get, Option, None, option_and_then, Result, Ok}
use Rattle.std.specs.Option.{option_map, option_map_or, option_to_list}
use Rattle.std.specs.Result.{result_ok}
use Rattle.core_spec.specs.LocalPaths.{local_path}
use Rattle.core_spec.specs.PathValues.{path_value}
use Rattle.core_spec.specs.Subjects.{subject_of}
use Rattle.core_spec.specs.declared.path.AccessPath.{AccessPath}
use Rattle.core_spec.specs.declared.subject.Subject.{Subject}
use Rattle.core_spec.specs.declared.subject.Subject.TheVariants as subjects
use Rattle.core_spec.specs.declared.value.RelocationValue.{RelocationValue}
use Rattle.btf_tables.specs.Tables.{Table}
use Rattle.ebpf_items.specs.declared.relocation_kind.RelocationKind.{RelocationKind}
use Rattle.core_match.specs.Matches.{matching_path}
use Rattle.core_match.specs.Candidates.{candidates, wanted_for}
use Rattle.core_match.specs.declared.kernel_type.KernelType.{KernelType}
use Rattle.core_resolve.specs.Matches.{followed_by, with_candidates, with_kernel, with_own_type}
use Rattle.core_resolve.specs.declared.error.TypeRelocationError.{TypeRelocationError}
use Rattle.core_resolve.specs.declared.matches.Match.{Match}
use Rattle.core_resolve.specs.declared.paths.FoundPath.{FoundPath}
use Rattle.core_resolve.specs.declared.paths.KnownPaths.{KnownPaths}
use Rattle.core_resolve.specs.declared.relocation.TypeRelocation.{TypeRelocation}

-- Whether a subject is a part of a type: a field or a variant. All tables are searched for it.
abbrev pub is_part : Subject → Bool
is_part subjects.Type = false
is_part _ = true

-- The path in a candidate, if the candidate has the part.
abbrev pub path_at : Subject
    → Table
    → AccessPath
    → List Table
    → KernelType
    → Result (Option FoundPath) TypeRelocationError
path_at subject local path targets place =
    option_map_or
    (λ target.
    with_kernel place (matching_path subject local path target place.type_id) (λ found.
    Ok (option_map (λ p. record { table = place.table; path = p }) found)))
    (slice_get targets place.table) (Ok None)

-- The path, if there is one, is appended.
abbrev pub IsAdded : Result (Option FoundPath) TypeRelocationError
    → List FoundPath
    → List FoundPath
    → Type 0
IsAdded found old new =
    (one : Option FoundPath) × (found ≡ Ok one) × (new ≡ old ++ option_to_list one)

-- The paths so far, followed by the paths in these candidates, in order.
unfoldable pub paths_of : Subject → Table → AccessPath → List Table → List FoundPath
    → List KernelType
    → Result (List FoundPath) TypeRelocationError
paths_of subject local path targets done [] = Ok done
paths_of subject local path targets done (c ∷ cs) =
    followed_by (path_at subject local path targets c) (λ found.
    paths_of subject local path targets (done ++ option_to_list found) cs)

-- The paths in the tables of a kernel.
abbrev pub found_paths : Subject
    → Table
    → AccessPath
    → List Table
    → Result (List FoundPath) TypeRelocationError
found_paths subject local path targets =
    with_own_type (wanted_for local path.type_id) (λ wanted.
    with_candidates (candidates wanted targets) (paths_of subject local path targets []))

-- The value of a path for a kind of relocation.
abbrev pub value_in : RelocationKind → AccessPath → Option Table → Option RelocationValue
value_in kind path target = option_and_then (λ t. result_ok (path_value t kind path)) target

abbrev pub match_from : RelocationKind → List Table → FoundPath → Match
match_from kind targets f = record {
  table = f.table;
  type_id = f.path.type_id;
  bit_offset = f.path.bit_offset;
  value = value_in kind f.path (slice_get targets f.table);
}

-- ---- Remembered paths

-- Two relocations are for the same part of the same type.
abbrev pub AskForOne : TypeRelocation → TypeRelocation → Type 0
AskForOne one other =
    (one.type_id ≡ other.type_id)
    × (one.access_str_off ≡ other.access_str_off)
    × (subject_of one.kind ≡ subject_of other.kind)

-- These are the paths of a relocation.
abbrev pub ArePathsOf : Table → List Table → TypeRelocation → List FoundPath → Type 0
ArePathsOf local targets r paths =
    IfOk (local_path local r.kind r.type_id r.access_str_off) (λ path.
    found_paths (subject_of r.kind) local path targets ≡ Ok paths)

pub record AreKnown (local : Table) (targets : List Table) (known : List KnownPaths) : Type 0 where
  pub each : All (λ k. ArePathsOf local targets k.relocation k.paths.items) known

-- The matches of a type relocation in a kernel's tables.
use Rattle.std.specs.Prelude.{ℕ, List, [], ◌∷◌, ◌++◌, slice_get, take, Option, None, Some, Result, Ok, Err}
use Rattle.std.specs.Option.{option_map_or, option_to_list}
use Rattle.core_spec.specs.Lookups.{and_then}
use Rattle.core_spec.specs.PathValues.{path_value}
use Rattle.core_spec.specs.Subjects.{subject_of}
use Rattle.core_spec.specs.declared.error.AccessError.{AccessError}
use Rattle.core_spec.specs.declared.error.AccessError.TheVariants.{BtfError as TypeError}
use Rattle.core_spec.specs.declared.path.AccessPath.{AccessPath}
use Rattle.core_spec.specs.declared.value.RelocationValue.{RelocationValue}
use Rattle.btf_records.specs.declared.error.BtfError.{BtfError}
use Rattle.btf_tables.specs.Tables.{Table}
use Rattle.ebpf_items.specs.declared.relocation_kind.RelocationKind.{RelocationKind}
use Rattle.ebpf_items.specs.declared.relocation_kind.RelocationKind.TheVariants as kinds
use Rattle.core_match.specs.Matches.{matching_path}
use Rattle.core_match.specs.Candidates.{candidates, wanted_for}
use Rattle.core_match.specs.declared.error.CandidateError.{CandidateError}
use Rattle.core_match.specs.declared.error.CandidateError.TheVariants as faults
use Rattle.core_match.specs.declared.kernel_type.KernelType.{KernelType}
use Rattle.core_resolve.specs.declared.error.TypeRelocationError.{TypeRelocationError}
use Rattle.core_resolve.specs.declared.error.TypeRelocationError.TheVariants as errors
use Rattle.core_resolve.specs.declared.matches.Match.{Match}

-- The result of a second step that uses the value of a first step, or the first step's error.
abbrev pub followed_by : {T U : Type 0} → Result T TypeRelocationError
    → (T → Result U TypeRelocationError)
    → Result U TypeRelocationError
followed_by (Ok x) go = go x
followed_by (Err e) go = Err e

-- The result of a step that uses a value in the object's own types, or the error of that value.
abbrev pub with_local : {T U : Type 0}
    → Result T AccessError
    → (T → Result U TypeRelocationError)
    → Result U TypeRelocationError
with_local (Ok x) go = go x
with_local (Err e) go = Err (errors.Local e)

-- The result of a step that uses a look-up in the object's own types, or the look-up's error.
abbrev pub with_own_type : {T U : Type 0}
    → Result T BtfError
    → (T → Result U TypeRelocationError)
    → Result U TypeRelocationError
with_own_type (Ok x) go = go x
with_own_type (Err e) go = Err (errors.Local (TypeError e))

-- The error of a type relocation for an error of its candidates.
abbrev pub of_candidates : CandidateError → TypeRelocationError
of_candidates (faults.UnreadableName place offset) = errors.UnreadableName place offset
of_candidates faults.OutOfMemory = errors.OutOfMemory

abbrev pub with_candidates : {T U : Type 0}
    → Result T CandidateError
    → (T → Result U TypeRelocationError)
    → Result U TypeRelocationError
with_candidates (Ok x) go = go x
with_candidates (Err e) go = Err (of_candidates e)

-- The result of a step that uses a value in a kernel's type, or the error of that value.
abbrev pub with_kernel : {T U : Type 0} → KernelType → Result T AccessError
    → (T → Result U TypeRelocationError)
    → Result U TypeRelocationError
with_kernel place (Ok x) go = go x
with_kernel place (Err e) go = Err (errors.Kernel place e)

-- The value of a match. A match may lack a value, except that the size of a type must be
-- computable.
abbrev pub if_computed : RelocationKind
    → Result RelocationValue AccessError
    → Result (Option RelocationValue) AccessError
if_computed kind (Ok value) = Ok (Some value)
if_computed kinds.TypeSize (Err e) = Err e
if_computed kind (Err e) = Ok None

abbrev pub match_of : RelocationKind → Table → ℕ → AccessPath → Result Match AccessError
match_of kind target table path =
    and_then (if_computed kind (path_value target kind path)) (λ value.
    Ok (record { table = table; type_id = path.type_id; bit_offset = path.bit_offset; value = value }))

abbrev pub of_path : RelocationKind
    → Table
    → ℕ
    → Option AccessPath
    → Result (Option Match) AccessError
of_path kind target table None = Ok None
of_path kind target table (Some path) =
    and_then (match_of kind target table path) (λ m. Ok (Some m))

-- The match of a candidate in a table, if it matches.
abbrev pub match_in : RelocationKind
    → Table
    → AccessPath
    → Table
    → KernelType
    → Result (Option Match) AccessError
match_in kind local path target place =
    and_then (matching_path (subject_of kind) local path target place.type_id)
    (of_path kind target place.table)

abbrev pub match_at : RelocationKind
    → Table
    → AccessPath
    → List Table
    → KernelType
    → Result (Option Match) TypeRelocationError
match_at kind local path targets place =
    option_map_or (λ target. with_kernel place (match_in kind local path target place) (λ m. Ok m))
    (slice_get targets place.table) (Ok None)

-- The matches so far, followed by the matches of these candidates, in order.
unfoldable pub matches_of : RelocationKind → Table → AccessPath → List Table → List Match
    → List KernelType
    → Result (List Match) TypeRelocationError
matches_of kind local path targets done [] = Ok done
matches_of kind local path targets done (c ∷ cs) =
    followed_by (match_at kind local path targets c) (λ m.
    matches_of kind local path targets (done ++ option_to_list m) cs)

-- The tables that are searched for a kind: none for an id of the object's own types, the first
-- alone for an id of a kernel type, else all.
abbrev pub searched_tables : {T : Type 0} → RelocationKind → List T → List T
searched_tables kinds.TypeIdLocal targets = []
searched_tables kinds.TypeIdTarget targets = take 1 targets
searched_tables _ targets = targets

-- The candidates for the local type of an id.
abbrev pub candidates_of : RelocationKind
    → Table
    → ℕ
    → List Table
    → Result (List KernelType) TypeRelocationError
candidates_of kind local id targets =
    with_own_type (wanted_for local id) (λ wanted.
    with_candidates (candidates wanted (searched_tables kind targets)) (λ found. Ok found))

-- The matches in a kernel's tables. All candidates are found before the first is compared.
abbrev pub kernel_matches : RelocationKind
    → Table
    → AccessPath
    → List Table
    → Result (List Match) TypeRelocationError
kernel_matches kind local path targets =
    with_own_type (wanted_for local path.type_id) (λ wanted.
    with_candidates (candidates wanted (searched_tables kind targets))
    (matches_of kind local path targets []))

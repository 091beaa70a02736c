-- The tables of matches, and so of outcomes, are among the tables that are searched.
use Rattle.std.proofs.Common.{◌≡◌, ℕ, ◌<◌, List, [], ◌∷◌, ◌++◌, length, None, Some, Ok, Err, Option, Result, refl, sym, subst}
use Rattle.std.proofs.lemmas.Option.{slice_get_within}
use Rattle.std.specs.Option.{option_map_or, option_to_list}
use Rattle.std.specs.Prelude.{IfOk, IfSome, slice_get}
use Rattle.core_spec.specs.LocalPaths.{local_path}
use Rattle.core_spec.specs.Lookups.{and_then}
use Rattle.core_spec.specs.PathValues.{path_value}
use Rattle.core_spec.specs.Subjects.{subject_of}
use Rattle.core_spec.specs.declared.error.AccessError.{AccessError}
use Rattle.core_spec.specs.declared.path.AccessPath.{AccessPath}
use Rattle.core_spec.specs.declared.value.RelocationValue.{RelocationValue}
use Rattle.btf_records.specs.declared.error.BtfError.{BtfError}
use Rattle.btf_tables.specs.Tables.{Table}
use Rattle.ebpf_items.specs.declared.relocation_kind.RelocationKind.{RelocationKind}
use Rattle.core_match.specs.Matches.{matching_path}
use Rattle.core_match.specs.Candidates.{candidates, wanted_for}
use Rattle.core_match.specs.declared.error.CandidateError.{CandidateError}
use Rattle.core_match.specs.declared.kernel_type.KernelType.{KernelType}
use Rattle.core_resolve.specs.KnownOutcomes.{IsOutcome}
use Rattle.core_resolve.specs.Matches.{followed_by, if_computed, kernel_matches, match_at, match_in, match_of, matches_of, of_path, searched_tables, with_candidates, with_own_type, with_kernel, with_local}
use Rattle.core_resolve.specs.RelocationOutcomes.{IsTableOf, resolved_by_kind, first_table, local_value, relocation_outcome, outcome_of_matches}
use Rattle.core_resolve.specs.declared.error.TypeRelocationError.{TypeRelocationError}
use Rattle.core_resolve.specs.declared.matches.Match.{Match}
use Rattle.core_resolve.specs.declared.resolved.Resolved.{Resolved}
use Rattle.core_resolve.specs.declared.relocation.RelocationOutcome.{RelocationOutcome}
use Rattle.core_resolve.specs.declared.relocation.TypeRelocation.{TypeRelocation}

-- ---- Properties of results

of_then : {T U : Type 0} (P : T → Type 0) (Q : U → Type 0) (r : Result T AccessError) (go : T → Result U AccessError) → IfOk r P → ((x : T) → P x → IfOk (go x) Q) → IfOk (and_then r go) Q
of_then P Q (Ok x) go is more = more x is
of_then P Q (Err e) go is more = tt

of_kernel : {T U : Type 0} (P : T → Type 0) (Q : U → Type 0) (place : KernelType) (r : Result T AccessError) (go : T → Result U TypeRelocationError) → IfOk r P → ((x : T) → P x → IfOk (go x) Q) → IfOk (with_kernel place r go) Q
of_kernel P Q place (Ok x) go is more = more x is
of_kernel P Q place (Err e) go is more = tt

of_followed : {T U : Type 0} (P : T → Type 0) (Q : U → Type 0) (r : Result T TypeRelocationError) (go : T → Result U TypeRelocationError) → IfOk r P → ((x : T) → P x → IfOk (go x) Q) → IfOk (followed_by r go) Q
of_followed P Q (Ok x) go is more = more x is
of_followed P Q (Err e) go is more = tt

of_local : {T U : Type 0} (Q : U → Type 0) (r : Result T AccessError) (go : T → Result U TypeRelocationError) → ((x : T) → IfOk (go x) Q) → IfOk (with_local r go) Q
of_local Q (Ok x) go more = more x
of_local Q (Err e) go more = tt

of_found : {T U : Type 0} (Q : U → Type 0) (r : Result T BtfError) (go : T → Result U TypeRelocationError) → ((x : T) → IfOk (go x) Q) → IfOk (with_own_type r go) Q
of_found Q (Ok x) go more = more x
of_found Q (Err e) go more = tt

of_candidates : {T U : Type 0} (Q : U → Type 0) (r : Result T CandidateError) (go : T → Result U TypeRelocationError) → ((x : T) → IfOk (go x) Q) → IfOk (with_candidates r go) Q
of_candidates Q (Ok x) go more = more x
of_candidates Q (Err e) go more = tt

-- ---- Matches

-- The match, if there is one, is in this table.
abbrev IsIn : ℕ → Option Match → Type 0
IsIn table found = IfSome found (λ m. m.table ≡ table)

of_value : (kind : RelocationKind) (target : Table) (table : ℕ) (path : AccessPath) → IfOk (match_of kind target table path) (λ m. m.table ≡ table)
of_value kind target table path = by (if_computed kind (path_value target kind path)) where
  by : (r : Result (Option RelocationValue) AccessError) → IfOk (and_then r (λ value. Ok (record { table = table; type_id = path.type_id; bit_offset = path.bit_offset; value = value }))) (λ (m : Match). m.table ≡ table)
  by (Ok value) = refl
  by (Err e) = tt

in_table : (kind : RelocationKind) (target : Table) (table : ℕ) (found : Option AccessPath) → IfOk (of_path kind target table found) (IsIn table)
in_table kind target table None = tt
in_table kind target table (Some path) = of_then (λ m. m.table ≡ table) (IsIn table) (match_of kind target table path) (λ m. Ok (Some m)) (of_value kind target table path) (λ m is. is)

always : {T : Type 0} (r : Result T AccessError) → IfOk r (λ _. Unit {0})
always (Ok x) = tt
always (Err e) = tt

is_in : (kind : RelocationKind) (local : Table) (path : AccessPath) (target : Table) (place : KernelType) → IfOk (match_in kind local path target place) (IsIn place.table)
is_in kind local path target place =
    let found = matching_path (subject_of kind) local path target place.type_id in
    of_then (λ _. Unit {0}) (IsIn place.table) found (of_path kind target place.table) (always found) (λ o _. in_table kind target place.table o)

-- The match, if there is one, is in one of these tables.
abbrev IsOf : List Table → Option Match → Type 0
IsOf targets found = IfSome found (λ m. m.table < length targets)

in_these : (targets : List Table) (table : ℕ) (found : Option Match) → table < length targets → IsIn table found → IsOf targets found
in_these targets table None lt is = tt
in_these targets table (Some m) lt is = subst (λ n. n < length targets) (sym is) lt

match_is_of : (kind : RelocationKind) (local : Table) (path : AccessPath) (targets : List Table) (place : KernelType) → IfOk (match_at kind local path targets place) (IsOf targets)
match_is_of kind local path targets place = by (slice_get targets place.table) refl where
  by : (o : Option Table) → slice_get targets place.table ≡ o → IfOk (option_map_or (λ target. with_kernel place (match_in kind local path target place) (λ m. Ok m)) o (Ok None)) (IsOf targets)
  by None known = tt
  by (Some target) known =
      let lt = slice_get_within targets place.table target known in
      of_kernel (IsIn place.table) (IsOf targets) place (match_in kind local path target place) (λ m. Ok m) (is_in kind local path target place) (λ m is. in_these targets place.table m lt is)

-- The first match, if there is one, is in one of these tables.
abbrev FirstIsOf : List Table → List Match → Type 0
FirstIsOf targets ms = IsTableOf targets (first_table ms)

one_more : (targets : List Table) (ms : List Match) (found : Option Match) → FirstIsOf targets ms → IsOf targets found → FirstIsOf targets (ms ++ option_to_list found)
one_more targets [] None first is = tt
one_more targets [] (Some m) first is = is
one_more targets (m ∷ ms) found first is = first

first_is_of : (kind : RelocationKind) (local : Table) (path : AccessPath) (targets : List Table) (cs : List KernelType) (done : List Match) → FirstIsOf targets done → IfOk (matches_of kind local path targets done cs) (FirstIsOf targets)
unfolding matches_of
first_is_of kind local path targets [] done first = first
first_is_of kind local path targets (c ∷ cs) done first =
    of_followed (IsOf targets) (FirstIsOf targets) (match_at kind local path targets c) (λ m. matches_of kind local path targets (done ++ option_to_list m) cs) (match_is_of kind local path targets c)
    (λ m is. first_is_of kind local path targets cs (done ++ option_to_list m) (one_more targets done m first is))

kernel_first : (kind : RelocationKind) (local : Table) (path : AccessPath) (targets : List Table) → IfOk (kernel_matches kind local path targets) (FirstIsOf targets)
kernel_first kind local path targets =
    of_found (FirstIsOf targets) (wanted_for local path.type_id) (λ wanted. with_candidates (candidates wanted (searched_tables kind targets)) (matches_of kind local path targets []))
    (λ wanted. of_candidates (FirstIsOf targets) (candidates wanted (searched_tables kind targets)) (matches_of kind local path targets []) (λ cs. first_is_of kind local path targets cs [] tt))

pub first_of : (kind : RelocationKind) (local : Table) (path : AccessPath) (targets : List Table) (ms : List Match) → kernel_matches kind local path targets ≡ Ok ms → IsTableOf targets (first_table ms)
first_of kind local path targets ms is = subst (λ (r : Result (List Match) TypeRelocationError). IfOk r (FirstIsOf targets)) is (kernel_first kind local path targets)

-- ---- Outcomes

abbrev TableIsOf : List Table → RelocationOutcome → Type 0
TableIsOf targets o = IsTableOf targets o.table

pub outcome_of_matches_is_of : (targets : List Table) (kind : RelocationKind) (matches : List Match) (value : RelocationValue) → FirstIsOf targets matches → IfOk (outcome_of_matches kind matches value) (TableIsOf targets)
outcome_of_matches_is_of targets kind matches value first = by (resolved_by_kind kind value matches) where
  by : (r : Result Resolved TypeRelocationError) → IfOk (followed_by r (λ outcome. Ok (record { outcome = outcome; local_field = value.field; table = first_table matches }))) (TableIsOf targets)
  by (Ok outcome) = first
  by (Err e) = tt

outcome_is_of : (local : Table) (r : TypeRelocation) (targets : List Table) → IfOk (relocation_outcome local r targets) (TableIsOf targets)
outcome_is_of local r targets =
    of_local (TableIsOf targets) (local_path local r.kind r.type_id r.access_str_off) (λ path. followed_by (kernel_matches r.kind local path targets) (λ matches. with_local (local_value local r.kind path) (outcome_of_matches r.kind matches)))
    (λ path. of_followed (FirstIsOf targets) (TableIsOf targets) (kernel_matches r.kind local path targets) (λ matches. with_local (local_value local r.kind path) (outcome_of_matches r.kind matches)) (kernel_first r.kind local path targets)
    (λ matches first. of_local (TableIsOf targets) (local_value local r.kind path) (outcome_of_matches r.kind matches) (λ value. outcome_of_matches_is_of targets r.kind matches value first)))

-- The table of an outcome, if it has one, is one of these.
pub table_of : (local : Table) (targets : List Table) (r : TypeRelocation) (o : RelocationOutcome) → IsOutcome local targets r o → IsTableOf targets o.table
table_of local targets r o is = subst (λ (s : Result RelocationOutcome TypeRelocationError). IfOk s (TableIsOf targets)) is (outcome_is_of local r targets)

pub table_if : (local : Table) (targets : List Table) (r : TypeRelocation) (result : Result RelocationOutcome TypeRelocationError) → IfOk result (IsOutcome local targets r) → IfOk result (TableIsOf targets)
table_if local targets r (Ok o) is = table_of local targets r o is
table_if local targets r (Err e) is = tt
